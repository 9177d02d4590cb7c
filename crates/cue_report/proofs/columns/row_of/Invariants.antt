use Rattle.cue_report.specs.Drawing.{IsRow}
use Rattle.cue_report.proofs.columns.row_of.Given as goal

-- the number stands there, and so many cells after it
abbrev pub invariant-loop-column : goal.invariant-loop-column
invariant-loop-column l = IsRow l.attempt.number l.column-index l.row.items
