use Rattle.std.proofs.Common.{◌≡◌, map, string_bytes, take}
use Rattle.cue_columns.specs.Columns.{AreFit}
use Rattle.cue_elsewhere.specs.Lines.{fit_text}
use Rattle.cue_elsewhere.proofs.lines.fitted_each.Given as goal

-- the texts so far were put there, and each fits
abbrev pub invariant-loop-text : goal.invariant-loop-text
invariant-loop-text l = record {
  value : map string_bytes l.all.items ≡ map fit_text (map string_bytes (take l.text-index l.texts));
  fit : AreFit l.all.items;
}
