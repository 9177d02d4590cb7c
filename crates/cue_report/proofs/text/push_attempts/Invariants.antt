use Rattle.cue_columns.specs.Columns.{Keeps}
use Rattle.cue_report.proofs.text.push_attempts.Given as goal

-- if what stood there fits, what stands there now does
abbrev pub invariant-loop-attempt : goal.invariant-loop-attempt
invariant-loop-attempt l = Keeps l.fn.lines.items l.lines.items
