use Rattle.cue_report.proofs.HeardLemmas.{hears_then}
use Rattle.cue_report.proofs.evening.Evening.hear.Goals as goal

pub loop-place-preserved : goal.loop-place-preserved
loop-place-preserved c = hears_then _ _ _ c.loop-place.invariant c.in_ok-hear_piece.ensures
