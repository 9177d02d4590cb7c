use Rattle.cue_report.proofs.LawLemmas.{lost_ends_are_told_as_lost}
use Rattle.cue_report.proofs.laws.lost_ends_are_told_as_lost.Goals as goal

pub returns : goal.returns
returns c = lost_ends_are_told_as_lost
