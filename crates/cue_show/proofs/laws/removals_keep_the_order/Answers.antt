use Rattle.cue_show.proofs.OrderLemmas.{removals_in_order}
use Rattle.cue_show.proofs.laws.removals_keep_the_order.Goals as goal

pub returns : goal.returns
returns c = removals_in_order
