use Rattle.std.proofs.Common.{length}
use Rattle.cue_edit.proofs.comparing.+are_same_numbers.Given as goal

abbrev pub decreases-are_same_numbers : goal.decreases-are_same_numbers
decreases-are_same_numbers l = length l.left.now
