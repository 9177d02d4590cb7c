use Rattle.std.proofs.Common.{◌≡◌, ◌++◌, ℕ, List, length, string_bytes, take}
use Rattle.cue_report.specs.Drawing.{AreDrawnBy}
use Rattle.cue_report.specs.Writing.{IsWritten}
use Rattle.cue_report.proofs.csv.push_rows.Given as goal

-- the attempts so far are written
abbrev pub invariant-loop-attempt : goal.invariant-loop-attempt
invariant-loop-attempt l =
    (rows : List ℕ) × (string_bytes l.table ≡ string_bytes l.fn.table ++ rows)
    × AreDrawnBy (IsWritten (length l.columns)) (take l.attempt-index l.attempts) rows
