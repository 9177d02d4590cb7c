use Rattle.std.proofs.Common.{◌≡◌, ◌++◌, map, take}
use Rattle.std.specs.List.{flat_map}
use Rattle.cue_board.specs.Board.{said_of}
use Rattle.cue_board.specs.Claims.{answer_says}
use Rattle.cue_board.proofs.claims.push_answers_say.Given as goal

-- the lines of the devices so far were put there
abbrev pub invariant-loop-answer : goal.invariant-loop-answer
invariant-loop-answer l =
    map said_of l.lines.items
    ≡ map said_of l.fn.lines.items ++ flat_map (answer_says l.network l.seq) (take l.answer-index l.answers)
