use Rattle.cue_order_words.proofs.LawLemmas.{each-is-clear}
use Rattle.cue_order_words.proofs.laws.each_is_clear.Goals as goal

pub returns : goal.returns
returns c = each-is-clear
