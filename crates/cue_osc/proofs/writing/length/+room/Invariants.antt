use Rattle.std.proofs.Common.{◌≡◌, drop}
use Rattle.cue_osc.specs.Writing.{room_left}
use Rattle.cue_osc.proofs.RoomLemmas.{items_len}
use Rattle.cue_osc.proofs.writing.length.+room.Given as goal

abbrev pub invariant-room_after_elements-loop-item : goal.invariant-room_after_elements-loop-item
invariant-room_after_elements-loop-item l = room_left l.left (items_len (drop l.item-index l.items)) ≡ room_left l.room
    (items_len l.items)
