use Rattle.cue_disk.proofs.CrashLemmas.{stop_within_a_sync}
use Rattle.cue_disk.proofs.laws.stop_within_a_sync.Goals as goal

pub returns : goal.returns
returns c = stop_within_a_sync
