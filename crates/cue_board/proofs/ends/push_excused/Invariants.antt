use Rattle.std.proofs.Common.{◌≡◌, ◌++◌, map, take}
use Rattle.cue_board.specs.Board.{said_of}
use Rattle.cue_board.specs.Ends.{excused_said}
use Rattle.cue_board.proofs.ends.push_excused.Given as goal

-- the devices so far were put there
abbrev pub invariant-loop-device : goal.invariant-loop-device
invariant-loop-device l =
    map said_of l.lines.items
    ≡ map said_of l.fn.lines.items ++ map (excused_said l.names) (take l.device-index l.devices)
