use Rattle.std.proofs.Common.{length, string_bytes, ◌++◌}
use Rattle.std.specs.Str.{chars}
use Rattle.cue_report.specs.Csv.{signs_of}
use Rattle.cue_report.proofs.CsvLemmas.{IsWay}
use Rattle.cue_report.proofs.csv.push_signs.Given as goal

-- what was put there, and what the characters that are left will put there, is all
abbrev pub invariant-loop-c : goal.invariant-loop-c
invariant-loop-c l =
    IsWay (length l.yielded) (chars l.text) (string_bytes l.table) (string_bytes l.fn.table ++ signs_of l.text)
