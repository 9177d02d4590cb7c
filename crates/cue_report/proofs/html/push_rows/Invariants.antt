use Rattle.std.proofs.Common.{◌≡◌, ◌++◌, ℕ, List, string_bytes, take}
use Rattle.cue_report.specs.Drawing.{AreDrawn}
use Rattle.cue_report.proofs.html.push_rows.Given as goal

-- the attempts so far are drawn
abbrev pub invariant-loop-attempt : goal.invariant-loop-attempt
invariant-loop-attempt l =
    (rows : List ℕ) × (string_bytes l.page ≡ string_bytes l.fn.page ++ rows)
    × AreDrawn (take l.attempt-index l.attempts) rows
