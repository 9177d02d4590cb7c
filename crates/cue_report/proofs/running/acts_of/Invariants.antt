use Rattle.std.proofs.Common.{◌≡◌, ◌++◌, None, drop}
use Rattle.cue_report.specs.Running.{acts_after}
use Rattle.cue_report.proofs.running.acts_of.Given as goal

-- what was put there, and what is left, are all
abbrev pub invariant-loop-mark : goal.invariant-loop-mark
invariant-loop-mark l = l.acts.items ++ acts_after l.last (drop l.mark-index l.marks) ≡ acts_after None l.marks
