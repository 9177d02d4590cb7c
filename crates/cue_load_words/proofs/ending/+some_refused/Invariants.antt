use Rattle.std.proofs.Common.{length}
use Rattle.cue_load_words.proofs.ending.+some_refused.Given as goal

-- one less
abbrev pub decreases-some_refused : goal.decreases-some_refused
decreases-some_refused l = length l.answers.now
