use Rattle.cue_stage.proofs.DecisionLemmas.{not_by_halves}
use Rattle.cue_stage.proofs.laws.not_by_halves.Goals as goal

pub returns : goal.returns
returns c = not_by_halves
