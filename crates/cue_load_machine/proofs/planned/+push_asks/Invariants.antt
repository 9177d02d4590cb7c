use Rattle.std.proofs.Common.{length}
use Rattle.cue_load_machine.proofs.planned.+push_asks.Given as goal

abbrev pub decreases-push_asks : goal.decreases-push_asks
decreases-push_asks l = length l.steps.now
