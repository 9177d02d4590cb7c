use Rattle.std.proofs.Common.{length}
use Rattle.cue_load_machine.proofs.deciding.+push_told.Given as goal

abbrev pub decreases-push_told : goal.decreases-push_told
decreases-push_told l = length l.asks.now
