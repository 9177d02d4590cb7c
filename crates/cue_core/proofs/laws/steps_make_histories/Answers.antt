use Rattle.cue_core.proofs.verdicts.StepLemmas.{steps-make-histories}
use Rattle.cue_core.proofs.laws.steps_make_histories.Goals as goal

pub returns : goal.returns
returns c = steps-make-histories
