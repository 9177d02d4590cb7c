use Rattle.std.proofs.Common.{length}
use Rattle.cue_edit.proofs.comparing.+are_copied.Given as goal

abbrev pub decreases-are_copied : goal.decreases-are_copied
decreases-are_copied l = length l.old.now
