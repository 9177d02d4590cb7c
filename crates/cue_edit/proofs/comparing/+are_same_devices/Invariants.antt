use Rattle.std.proofs.Common.{length}
use Rattle.cue_edit.proofs.comparing.+are_same_devices.Given as goal

abbrev pub decreases-are_same_devices : goal.decreases-are_same_devices
decreases-are_same_devices l = length l.old.now
