use Rattle.cue_columns.specs.Columns.{Keeps}
use Rattle.cue_columns.proofs.parts.push_part.Given as goal

-- if what stood there fits, what stands there now does
abbrev pub invariant-loop-row : goal.invariant-loop-row
invariant-loop-row l = Keeps l.fn.lines.items l.lines.items
