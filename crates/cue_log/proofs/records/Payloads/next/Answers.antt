use Rattle.std.proofs.Common.{sym, ◌∙◌}
use Rattle.cue_log.proofs.RecordsReadLemmas.{one_in}
use Rattle.cue_log.proofs.records.Payloads.next.Goals as goal

pub invariant_of-self : goal.invariant_of-self
invariant_of-self c =
    (one_in c.self.inside.rest.now c.in_ok-gate.after.now c.in_ok-gate.gate.now c.in_ok-gate.ensures.cases.0
    c.if-gate-ne-OPEN.false
    c.in_ok-payload.payload.now c.in_ok-payload.rest.now c.in_ok-payload.ensures.frame c.self.invariant).0

pub returns : goal.returns
returns c =
    sym c.self.view_is
    ∙ (one_in c.self.inside.rest.now c.in_ok-gate.after.now c.in_ok-gate.gate.now c.in_ok-gate.ensures.cases.0
    c.if-gate-ne-OPEN.false
    c.in_ok-payload.payload.now c.in_ok-payload.rest.now c.in_ok-payload.ensures.frame c.self.invariant).1
