use Rattle.std.proofs.Common.{◌≡◌, take}
use Rattle.std.specs.List.{flat_map}
use Rattle.cue_evening.specs.Looks.{Grew, alone_entry}
use Rattle.cue_evening.proofs.teller.Writer.tell_alone.Given as goal

-- the attempts so far have their lines
abbrev pub invariant-loop-attempt : goal.invariant-loop-attempt
invariant-loop-attempt g l =
    Grew (g.P.Paper.told l.fn.self.page) (flat_map (alone_entry l.number) (take l.attempt-index l.live))
    (g.P.Paper.told l.self.page) × (l.self.course ≡ l.fn.self.course)
