use Rattle.std.proofs.Common.{length}
use Rattle.cue_load_machine.proofs.adding.+push_groups.Given as goal

abbrev pub decreases-push_groups : goal.decreases-push_groups
decreases-push_groups g l = length l.entries.now
