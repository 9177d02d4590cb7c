use Rattle.cue_web.proofs.RoundLemmas.{ServesFirst}
use Rattle.cue_web.proofs.connections.serve_each.Given as goal

-- the first so many were served
abbrev pub invariant-loop-connection : goal.invariant-loop-connection
invariant-loop-connection g l =
    ServesFirst l.fn.pages.identity l.pages.identity l.fn.pages.guard l.pages.guard l.now l.initial.connection-items
    l.connection-items l.connection-index l.fn.desk.station l.desk.station
