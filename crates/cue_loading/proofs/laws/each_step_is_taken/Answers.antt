use Rattle.cue_loading.proofs.StepLemmas.{each_is_taken}
use Rattle.cue_loading.proofs.laws.each_step_is_taken.Goals as goal

pub returns : goal.returns
returns c = each_is_taken
