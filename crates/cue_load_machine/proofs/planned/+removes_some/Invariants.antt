use Rattle.std.proofs.Common.{length}
use Rattle.cue_load_machine.proofs.planned.+removes_some.Given as goal

abbrev pub decreases-removes_some : goal.decreases-removes_some
decreases-removes_some l = length l.steps.now
