use Rattle.cue_rehearsal_plan.proofs.PlanLemmas.{nobody-else}
use Rattle.cue_rehearsal_plan.proofs.laws.nobody_else_is_played.Goals as goal

pub returns : goal.returns
returns c = nobody-else
