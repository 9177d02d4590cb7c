use Rattle.std.proofs.Common.{length}
use Rattle.cue_load_machine.proofs.adding.+push_each.Given as goal

abbrev pub decreases-push_each : goal.decreases-push_each
decreases-push_each g l = length l.entries.now
