use Rattle.cue_rehearsal_plan.proofs.PlanLemmas.{each-unknown}
use Rattle.cue_rehearsal_plan.proofs.laws.each_unknown_is_named.Goals as goal

pub returns : goal.returns
returns c = each-unknown
