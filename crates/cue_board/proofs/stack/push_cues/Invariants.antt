use Rattle.std.proofs.Common.{◌≡◌, ◌++◌, map, take}
use Rattle.cue_board.specs.Board.{cue_said, said_of}
use Rattle.cue_board.proofs.stack.push_cues.Given as goal

-- the cues so far were put there
abbrev pub invariant-loop-cue : goal.invariant-loop-cue
invariant-loop-cue l =
    map said_of l.lines.items ≡ map said_of l.fn.lines.items ++ map (cue_said l.place) (take l.cue-index l.cues)
