use Rattle.cue_rehearsal_plan.proofs.PlanLemmas.{each-is_played}
use Rattle.cue_rehearsal_plan.proofs.laws.each_is_played.Goals as goal

pub returns : goal.returns
returns c = each-is_played
