use Rattle.cue_order_words.proofs.LawLemmas.{made-is-replied}
use Rattle.cue_order_words.proofs.laws.made_is_replied.Goals as goal

pub returns : goal.returns
returns c = made-is-replied
