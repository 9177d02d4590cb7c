use Rattle.std.proofs.Common.{length}
use Rattle.cue_loading.proofs.wanted.+push_left_after.Given as goal

abbrev pub decreases-push_left_after : goal.decreases-push_left_after
decreases-push_left_after l = length l.stored.now
