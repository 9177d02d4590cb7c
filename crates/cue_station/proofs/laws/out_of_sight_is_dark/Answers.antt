use Rattle.cue_station.proofs.SightLemmas.{out_of_sight}
use Rattle.cue_station.proofs.laws.out_of_sight_is_dark.Goals as goal

pub returns : goal.returns
returns c = out_of_sight
