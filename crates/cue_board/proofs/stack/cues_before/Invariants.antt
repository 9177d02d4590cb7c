use Rattle.std.proofs.Common.{◌≡◌, ◌+◌, drop}
use Rattle.cue_board.specs.Board.{cues_before}
use Rattle.cue_board.proofs.stack.cues_before.Given as goal

-- those that were looked at are before it, and so are some of the others
abbrev pub invariant-loop-other : goal.invariant-loop-other
invariant-loop-other l =
    (l.before ≡ l.other-index) × (l.before + cues_before l.cue (drop l.other-index l.cues) ≡ cues_before l.cue l.cues)
