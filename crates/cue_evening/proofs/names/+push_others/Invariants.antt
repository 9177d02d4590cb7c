use Rattle.std.proofs.Common.{length}
use Rattle.cue_evening.proofs.names.+push_others.Given as goal

abbrev pub decreases-push_others : goal.decreases-push_others
decreases-push_others g l = length l.others.now
