use Rattle.std.proofs.Common.{length}
use Rattle.cue_edit.proofs.comparing.+are_placed.Given as goal

abbrev pub decreases-are_placed : goal.decreases-are_placed
decreases-are_placed l = length l.old.now
