use Rattle.std.proofs.Common.{◌≡◌, map, string_bytes, take}
use Rattle.cue_board.specs.Board.{text_of}
use Rattle.cue_columns.specs.Columns.{AreFit}
use Rattle.cue_board.proofs.line.texts.Given as goal

-- the lines so far were put there, and each fits
abbrev pub invariant-loop-line : goal.invariant-loop-line
invariant-loop-line l = record {
  value : map string_bytes l.texts.items ≡ map text_of (take l.line-index l.lines);
  fit : AreFit l.texts.items;
}
