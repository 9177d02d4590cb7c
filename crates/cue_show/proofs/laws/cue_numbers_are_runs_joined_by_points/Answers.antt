use Rattle.cue_show.proofs.PiecesLemmas.{joined_runs}
use Rattle.cue_show.proofs.laws.cue_numbers_are_runs_joined_by_points.Goals as goal

pub returns : goal.returns
returns c = joined_runs
