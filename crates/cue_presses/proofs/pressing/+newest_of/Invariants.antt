use Rattle.std.proofs.Common.{length}
use Rattle.cue_presses.proofs.pressing.+newest_of.Given as goal

abbrev pub decreases-newest_of : goal.decreases-newest_of
decreases-newest_of l = length l.live.now
