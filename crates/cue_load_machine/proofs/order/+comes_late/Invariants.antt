use Rattle.std.proofs.Common.{length}
use Rattle.cue_load_machine.proofs.order.+comes_late.Given as goal

abbrev pub decreases-comes_late : goal.decreases-comes_late
decreases-comes_late l = length l.answers.now
