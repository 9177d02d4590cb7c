use Rattle.std.proofs.Common.{length}
use Rattle.cue_load_words.proofs.live.+write_others.Given as goal

-- one cue less
abbrev pub decreases-write_others : goal.decreases-write_others
decreases-write_others g l = length l.cues.now
