use Rattle.std.proofs.Common.{length}
use Rattle.cue_show_file.proofs.reading.together.+read_each.Given as goal

abbrev pub decreases-read_each : goal.decreases-read_each
decreases-read_each l = length l.values.now
