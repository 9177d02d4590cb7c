use Rattle.cue_pattern.proofs.PatternLemmas.{pattern_at-is, pattern_at-again}
use Rattle.cue_pattern.proofs.laws.reads_the_grammar.Goals as goal

pub returns : goal.returns
returns c = λ bytes pattern. (pattern_at-is bytes pattern, pattern_at-again bytes pattern)
