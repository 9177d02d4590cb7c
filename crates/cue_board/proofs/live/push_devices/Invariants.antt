use Rattle.std.proofs.Common.{◌≡◌, ◌++◌, map, take}
use Rattle.cue_board.specs.Board.{device_said, said_of}
use Rattle.cue_board.proofs.live.push_devices.Given as goal

-- the devices so far were put there
abbrev pub invariant-loop-answer : goal.invariant-loop-answer
invariant-loop-answer l =
    map said_of l.lines.items ≡ map said_of l.fn.lines.items ++ map device_said (take l.answer-index l.answers)
