use Rattle.std.proofs.Common.{◌≡◌, None, drop}
use Rattle.cue_report.specs.Ends.{last_down}
use Rattle.cue_report.proofs.ends.last_down.Given as goal

-- the last fall so far, with the marks that are left, is that of all
abbrev pub invariant-loop-mark : goal.invariant-loop-mark
invariant-loop-mark l = last_down l.last (drop l.mark-index l.marks) ≡ last_down None l.marks
