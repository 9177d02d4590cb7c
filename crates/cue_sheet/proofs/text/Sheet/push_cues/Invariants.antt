use Rattle.cue_columns.specs.Columns.{Keeps}
use Rattle.cue_sheet.proofs.text.Sheet.push_cues.Given as goal

-- if what stood there fits, what stands there now does
abbrev pub invariant-loop-entry : goal.invariant-loop-entry
invariant-loop-entry l = Keeps l.fn.self.lines.items l.self.lines.items
