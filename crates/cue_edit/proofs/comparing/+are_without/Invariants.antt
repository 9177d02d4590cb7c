use Rattle.std.proofs.Common.{length}
use Rattle.cue_edit.proofs.comparing.+are_without.Given as goal

abbrev pub decreases-are_without : goal.decreases-are_without
decreases-are_without l = length l.old.now
