use Rattle.cue_rehearsal_plan.proofs.PlanLemmas.{only-unknown}
use Rattle.cue_rehearsal_plan.proofs.laws.only_unknown_is_named.Goals as goal

pub returns : goal.returns
returns c = only-unknown
