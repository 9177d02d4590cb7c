use Rattle.std.proofs.Common.{length}
use Rattle.cue_load_words.proofs.telling.+push_differences.Given as goal

-- one less
abbrev pub decreases-push_differences : goal.decreases-push_differences
decreases-push_differences l = length l.found.now
