use Rattle.std.proofs.Common.{length}
use Rattle.cue_loading.proofs.wanted.+push_left_front.Given as goal

abbrev pub decreases-push_left_front : goal.decreases-push_left_front
decreases-push_left_front l = length l.stored.now
