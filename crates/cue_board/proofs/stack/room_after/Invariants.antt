use Rattle.std.proofs.Common.{◌≡◌, drop}
use Rattle.cue_board.specs.Board.{room_after}
use Rattle.cue_board.proofs.stack.room_after.Given as goal

-- what is left by now, and then the attempts that are left, give the whole
abbrev pub invariant-loop-attempt : goal.invariant-loop-attempt
invariant-loop-attempt l = room_after l.left (drop l.attempt-index l.live) ≡ room_after l.room l.live
