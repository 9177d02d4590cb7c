use Rattle.cue_stage.proofs.DecisionLemmas.{moves_rest_on_decisions}
use Rattle.cue_stage.proofs.laws.moves_rest_on_decisions.Goals as goal

pub returns : goal.returns
returns c = moves_rest_on_decisions
