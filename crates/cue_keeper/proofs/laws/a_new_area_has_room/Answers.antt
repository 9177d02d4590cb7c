use Rattle.cue_keeper.proofs.FittingLemmas.{new_area}
use Rattle.cue_keeper.proofs.laws.a_new_area_has_room.Goals as goal

pub returns : goal.returns
returns c = new_area
