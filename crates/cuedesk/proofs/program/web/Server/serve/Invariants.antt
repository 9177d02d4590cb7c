use Rattle.cue_web.specs.Serving.{OnlyAsked}
use Rattle.cuedesk.proofs.program.web.Server.serve.Given as goal

-- what was heard so far was asked
abbrev pub invariant-loop : goal.invariant-loop
invariant-loop g l =
    OnlyAsked l.fn.self.pages.identity l.self.pages.identity l.fn.self.pages.guard l.self.pages.guard
    l.fn.self.desk.station l.self.desk.station
