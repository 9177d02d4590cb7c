use Rattle.std.proofs.Common.{length}
use Rattle.cue_edit.proofs.comparing.+are_same_forms.Given as goal

abbrev pub decreases-are_same_forms : goal.decreases-are_same_forms
decreases-are_same_forms l = length l.left.now
