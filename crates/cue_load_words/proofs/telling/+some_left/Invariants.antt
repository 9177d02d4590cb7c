use Rattle.std.proofs.Common.{length}
use Rattle.cue_load_words.proofs.telling.+some_left.Given as goal

-- one less
abbrev pub decreases-some_left : goal.decreases-some_left
decreases-some_left l = length l.found.now
