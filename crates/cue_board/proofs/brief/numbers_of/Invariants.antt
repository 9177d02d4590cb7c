use Rattle.std.proofs.Common.{◌≡◌, ◌++◌, drop, string_bytes}
use Rattle.cue_board.specs.Board.{numbers_of}
use Rattle.cue_board.proofs.brief.numbers_of.Given as goal

-- what was put there, and then the numbers of the devices that are left, are all
abbrev pub invariant-loop-answer : goal.invariant-loop-answer
invariant-loop-answer l =
    string_bytes l.numbers ++ numbers_of l.kind (drop l.answer-index l.answers) ≡ numbers_of l.kind l.answers
