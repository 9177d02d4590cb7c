use Rattle.cue_rehearsal_plan.proofs.PlanLemmas.{unknown-once}
use Rattle.cue_rehearsal_plan.proofs.laws.unknown_is_named_once.Goals as goal

pub returns : goal.returns
returns c = unknown-once
