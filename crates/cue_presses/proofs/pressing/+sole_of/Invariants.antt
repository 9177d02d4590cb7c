use Rattle.std.proofs.Common.{length}
use Rattle.cue_presses.proofs.pressing.+sole_of.Given as goal

abbrev pub decreases-sole_of : goal.decreases-sole_of
decreases-sole_of l = length l.live.now
