use Rattle.std.proofs.Common.{length}
use Rattle.cue_load_machine.proofs.deciding.+push_none.Given as goal

abbrev pub decreases-push_none : goal.decreases-push_none
decreases-push_none g l = length l.asks.now
