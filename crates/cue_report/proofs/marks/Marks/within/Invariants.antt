use Rattle.std.proofs.Common.{◌≡◌, ◌++◌, drop}
use Rattle.cue_report.specs.Marks.{within}
use Rattle.cue_report.proofs.marks.Marks.within.Given as goal

-- what was put there, and what is left of the marks, are all
abbrev pub invariant-loop-mark : goal.invariant-loop-mark
invariant-loop-mark l =
    l.told.items ++ within l.range l.ahead (drop l.mark-index l.self.list.items)
    ≡ within l.range l.ahead l.self.list.items
