use Rattle.std.proofs.Common.{length}
use Rattle.cue_edit.proofs.rewriting.+is_ended.Given as goal

abbrev pub decreases-is_ended : goal.decreases-is_ended
decreases-is_ended l = length l.text.now
