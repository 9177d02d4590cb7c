use Rattle.cue_stage.proofs.SinceLemmas.{waiting_never_rises}
use Rattle.cue_stage.proofs.laws.waiting_never_rises.Goals as goal

pub returns : goal.returns
returns c = waiting_never_rises
