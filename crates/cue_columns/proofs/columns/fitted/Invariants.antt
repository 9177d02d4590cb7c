use Rattle.std.proofs.Common.{length, string_bytes}
use Rattle.std.specs.Str.{chars}
use Rattle.cue_columns.specs.Columns.{fit_of}
use Rattle.cue_columns.proofs.ColumnLemmas.{IsWay}
use Rattle.cue_columns.proofs.columns.fitted.Given as goal

-- what was put there, and what has room of the characters that are left, is all that fits
abbrev pub invariant-loop-c : goal.invariant-loop-c
invariant-loop-c l =
    IsWay l.left l.room (length l.yielded) (chars l.text) (string_bytes l.fit) (fit_of l.columns l.text)
