use Rattle.std.proofs.Common.{take}
use Rattle.std.specs.List.{flat_map}
use Rattle.cue_evening.specs.Looks.{Grew, end_entry}
use Rattle.cue_evening.proofs.teller.tell_ends.Given as goal

-- the attempts so far have their lines
abbrev pub invariant-loop-followed : goal.invariant-loop-followed
invariant-loop-followed g l =
    Grew (g.P.Paper.told l.fn.page) (flat_map (end_entry l.state l.now) (take l.followed-index l.course))
    (g.P.Paper.told l.page)
