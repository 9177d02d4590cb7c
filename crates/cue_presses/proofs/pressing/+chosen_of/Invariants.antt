use Rattle.std.proofs.Common.{length}
use Rattle.cue_presses.proofs.pressing.+chosen_of.Given as goal

abbrev pub decreases-chosen_of : goal.decreases-chosen_of
decreases-chosen_of l = length l.live.now
