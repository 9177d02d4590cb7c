use Rattle.std.proofs.Common.{length}
use Rattle.cue_load_words.proofs.telling.+push_refusals.Given as goal

-- one less
abbrev pub decreases-push_refusals : goal.decreases-push_refusals
decreases-push_refusals g l = length l.entries.now
