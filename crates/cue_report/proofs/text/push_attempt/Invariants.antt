use Rattle.cue_columns.specs.Columns.{Keeps}
use Rattle.cue_report.proofs.text.push_attempt.Given as goal

-- if what stood there fits, what stands there now does
abbrev pub invariant-loop-said : goal.invariant-loop-said
invariant-loop-said l = Keeps l.fn.lines.items l.lines.items
