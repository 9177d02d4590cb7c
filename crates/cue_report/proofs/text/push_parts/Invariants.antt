use Rattle.cue_columns.specs.Columns.{Keeps}
use Rattle.cue_report.proofs.text.push_parts.Given as goal

-- if what stood there fits, what stands there now does
abbrev pub invariant-loop-part : goal.invariant-loop-part
invariant-loop-part l = Keeps l.fn.lines.items l.lines.items
