use Rattle.std.proofs.Common.{length}
use Rattle.cue_show_file.proofs.together.+all_apart.Given as goal

abbrev pub decreases-all_apart : goal.decreases-all_apart
decreases-all_apart l = length l.cues.now
