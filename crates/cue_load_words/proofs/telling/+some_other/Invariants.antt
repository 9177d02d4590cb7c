use Rattle.std.proofs.Common.{length}
use Rattle.cue_load_words.proofs.telling.+some_other.Given as goal

-- one less
abbrev pub decreases-some_other : goal.decreases-some_other
decreases-some_other l = length l.found.now
