use Rattle.std.proofs.Common.{length}
use Rattle.cue_load_machine.proofs.differing.+changes_some.Given as goal

abbrev pub decreases-changes_some : goal.decreases-changes_some
decreases-changes_some l = length l.found.now
