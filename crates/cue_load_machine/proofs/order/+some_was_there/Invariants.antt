use Rattle.std.proofs.Common.{length}
use Rattle.cue_load_machine.proofs.order.+some_was_there.Given as goal

abbrev pub decreases-some_was_there : goal.decreases-some_was_there
decreases-some_was_there l = length l.answers.now
