use Rattle.std.proofs.Common.{length}
use Rattle.cue_operator.proofs.arguments.+read_pairs.Given as goal

abbrev pub decreases-read_pairs : goal.decreases-read_pairs
decreases-read_pairs l = length l.args.now
