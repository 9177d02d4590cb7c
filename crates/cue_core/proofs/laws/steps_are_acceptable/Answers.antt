use Rattle.cue_core.proofs.verdicts.StepLemmas.{steps-acceptable}
use Rattle.cue_core.proofs.laws.steps_are_acceptable.Goals as goal

pub returns : goal.returns
returns c = steps-acceptable
