use Rattle.cue_pattern.proofs.MeaningLemmas.{matches-is, matches-again}
use Rattle.cue_pattern.proofs.laws.matches_the_meaning.Goals as goal

pub returns : goal.returns
returns c = λ pattern address. (matches-is pattern address, matches-again pattern address)
