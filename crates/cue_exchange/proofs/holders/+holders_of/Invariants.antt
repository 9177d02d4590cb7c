use Rattle.std.proofs.Common.{length}
use Rattle.cue_exchange.proofs.holders.+holders_of.Given as goal

abbrev pub decreases-holders_of : goal.decreases-holders_of
decreases-holders_of l = length l.attempts.now
