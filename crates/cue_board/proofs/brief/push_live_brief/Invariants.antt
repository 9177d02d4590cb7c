use Rattle.std.proofs.Common.{◌≡◌, ◌++◌, map, take}
use Rattle.std.specs.List.{flat_map}
use Rattle.cue_board.specs.Board.{attempt_brief, said_of}
use Rattle.cue_board.proofs.brief.push_live_brief.Given as goal

-- the attempts so far were put there
abbrev pub invariant-loop-attempt : goal.invariant-loop-attempt
invariant-loop-attempt l =
    map said_of l.lines.items
    ≡ map said_of l.fn.lines.items ++ flat_map (attempt_brief l.view) (take l.attempt-index l.live)
