use Rattle.cue_columns.specs.Columns.{AreFit}
use Rattle.cue_board.proofs.log.log_lines.Given as goal

-- the lines so far fit
abbrev pub invariant-loop-line-2 : goal.invariant-loop-line-2
invariant-loop-line-2 l =
    (goal.iterator-loop-line-2).can_next l.line-iterator × (goal.iterator-loop-line-2).is_finite l.line-iterator
    × AreFit l.lines.items
