use denote.Shadow.{shadow}
use denote.Text.{Utf8}
use Rattle.cue_columns.specs.Columns.{AreFit}
use Rattle.cue_board.proofs.log.push_wrapped.Given as goal

-- the lines so far fit
abbrev pub invariant-loop : goal.invariant-loop
invariant-loop l = shadow (Utf8 l.left) × shadow (Utf8 l.margin) × AreFit l.lines.items
