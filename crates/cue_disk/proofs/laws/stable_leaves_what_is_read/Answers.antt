use Rattle.cue_disk.proofs.CrashLemmas.{image_stable}
use Rattle.cue_disk.proofs.laws.stable_leaves_what_is_read.Goals as goal

pub returns : goal.returns
returns c = image_stable
