use Rattle.cue_columns.specs.Columns.{Keeps}
use Rattle.cue_columns.proofs.cells.push_row.Given as goal

-- if what stood there fits, what stands there now does
abbrev pub invariant-loop-index : goal.invariant-loop-index
invariant-loop-index l = Keeps l.fn.lines.items l.lines.items
