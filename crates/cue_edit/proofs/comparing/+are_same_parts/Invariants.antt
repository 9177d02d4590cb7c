use Rattle.std.proofs.Common.{length}
use Rattle.cue_edit.proofs.comparing.+are_same_parts.Given as goal

abbrev pub decreases-are_same_parts : goal.decreases-are_same_parts
decreases-are_same_parts l = length l.left.now
