use Rattle.cue_order_words.proofs.LawLemmas.{done-is-replied}
use Rattle.cue_order_words.proofs.laws.done_is_replied.Goals as goal

pub returns : goal.returns
returns c = done-is-replied
