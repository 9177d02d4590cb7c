use Rattle.std.proofs.Common.{◌≡◌, drop}
use Rattle.cue_report.specs.Ends.{first_up}
use Rattle.cue_report.proofs.ends.first_up.Given as goal

-- the first rise is among the marks that are left
abbrev pub invariant-loop-mark : goal.invariant-loop-mark
invariant-loop-mark l = first_up (drop l.mark-index l.marks) ≡ first_up l.marks
