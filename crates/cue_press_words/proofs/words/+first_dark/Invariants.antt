use Rattle.std.proofs.Common.{length}
use Rattle.cue_press_words.proofs.words.+first_dark.Given as goal

-- one alarm fewer each time
abbrev pub decreases-first_dark : goal.decreases-first_dark
decreases-first_dark l = length l.alarms.now
