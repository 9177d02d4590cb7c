use Rattle.std.proofs.Common.{◌≡◌, ◌++◌, map, take}
use Rattle.std.specs.List.{flat_map}
use Rattle.cue_board.specs.Board.{said_of}
use Rattle.cue_board.specs.Ends.{failed_lines}
use Rattle.cue_board.proofs.ends.push_failed.Given as goal

-- the lines of the devices so far were put there
abbrev pub invariant-loop-device : goal.invariant-loop-device
invariant-loop-device l =
    map said_of l.lines.items
    ≡ map said_of l.fn.lines.items
    ++ flat_map (failed_lines l.names l.network l.told) (take l.device-index l.told.failed)
