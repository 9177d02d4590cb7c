use Rattle.cue_rehearsal_plan.proofs.PlanLemmas.{unnamed-plays}
use Rattle.cue_rehearsal_plan.proofs.laws.unnamed_plays.Goals as goal

pub returns : goal.returns
returns c = unnamed-plays
