use Rattle.std.proofs.Common.{length}
use Rattle.cue_operator.proofs.arguments.+are_triples.Given as goal

abbrev pub decreases-are_triples : goal.decreases-are_triples
decreases-are_triples l = length l.args.now
