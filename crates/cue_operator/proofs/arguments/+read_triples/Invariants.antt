use Rattle.std.proofs.Common.{length}
use Rattle.cue_operator.proofs.arguments.+read_triples.Given as goal

abbrev pub decreases-read_triples : goal.decreases-read_triples
decreases-read_triples l = length l.args.now
