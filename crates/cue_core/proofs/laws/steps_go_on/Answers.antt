use Rattle.cue_core.proofs.verdicts.StepLemmas.{steps-go-on}
use Rattle.cue_core.proofs.laws.steps_go_on.Goals as goal

pub returns : goal.returns
returns c = steps-go-on
