use Rattle.cue_keeper.proofs.FittingLemmas.{room_beside}
use Rattle.cue_keeper.proofs.laws.room_beside_is_room.Goals as goal

pub returns : goal.returns
returns c = room_beside
