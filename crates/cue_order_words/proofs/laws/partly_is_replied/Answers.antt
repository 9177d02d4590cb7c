use Rattle.cue_order_words.proofs.LawLemmas.{partly-is-replied}
use Rattle.cue_order_words.proofs.laws.partly_is_replied.Goals as goal

pub returns : goal.returns
returns c = partly-is-replied
