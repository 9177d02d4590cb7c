use Rattle.cue_station.proofs.LoudnessLemmas.{in_order}
use Rattle.cue_station.proofs.warning.loudest_first.Goals as goal

pub returns : goal.returns
returns c = in_order
