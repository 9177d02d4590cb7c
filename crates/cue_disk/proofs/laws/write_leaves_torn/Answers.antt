use Rattle.cue_disk.proofs.CrashLemmas.{image_torn}
use Rattle.cue_disk.proofs.laws.write_leaves_torn.Goals as goal

pub returns : goal.returns
returns c = image_torn
