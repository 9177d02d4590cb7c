use Rattle.cue_columns.specs.Columns.{Keeps}
use Rattle.cue_sheet.proofs.text.Sheet.push_cue.Given as goal

-- if what stood there fits, what stands there now does
abbrev pub invariant-loop-index : goal.invariant-loop-index
invariant-loop-index l = Keeps l.fn.self.lines.items l.self.lines.items
