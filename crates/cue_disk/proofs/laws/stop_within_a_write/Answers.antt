use Rattle.cue_disk.proofs.CrashLemmas.{stop_within_a_write}
use Rattle.cue_disk.proofs.laws.stop_within_a_write.Goals as goal

pub returns : goal.returns
returns c = stop_within_a_write
