use Rattle.std.proofs.Common.{◌≡◌, ◌++◌, map, take}
use Rattle.std.specs.List.{flat_map}
use Rattle.cue_board.specs.Board.{owed_line, said_of}
use Rattle.cue_board.proofs.owed.push_each.Given as goal

-- the lines of the attempts so far were put there
abbrev pub invariant-loop-attempt : goal.invariant-loop-attempt
invariant-loop-attempt l =
    map said_of l.lines.items ≡ map said_of l.fn.lines.items ++ flat_map owed_line (take l.attempt-index l.live)
