use Rattle.std.proofs.Common.{length}
use Rattle.cue_load_machine.proofs.asks.+alone_in.Given as goal

abbrev pub decreases-alone_in : goal.decreases-alone_in
decreases-alone_in l = length l.asks.now
