use Rattle.std.proofs.Common.{length}
use Rattle.cue_evening.specs.Looks.{Meets, log_of, takes}
use Rattle.cue_evening.proofs.teller.Writer.take_events.Given as goal

-- what the events that are left make of the log now is what all of them make of the log before
abbrev pub invariant-loop-rest : goal.invariant-loop-rest
invariant-loop-rest g l =
    Meets (takes l.cause l.rest) (log_of (g.P.Paper.told l.self.page) l.self.course) (takes l.cause l.events)
    (log_of (g.P.Paper.told l.fn.self.page) l.fn.self.course)

abbrev pub decreases-loop-rest : goal.decreases-loop-rest
decreases-loop-rest g l = length l.rest
