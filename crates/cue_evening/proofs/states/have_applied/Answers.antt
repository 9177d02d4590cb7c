use Rattle.std.proofs.Common.{◌∙◌, ap, sym}
use Rattle.cue_core.specs.Steps.{after}
use Rattle.cue_core.proofs.rules.ApplyLemmas.{after_events-more}
use Rattle.cue_evening.proofs.states.have_applied.Goals as goal

pub loop-event-preserved : goal.loop-event-preserved
loop-event-preserved c =
    c.has_applied.ensures c.if-not-has_applied.false
    ∙ (ap (λ s. after s c.event-item.result) c.loop-event.invariant
    ∙ sym (after_events-more _ c.args.batch.now c.loop-event.event-index c.event-item.result c.loop-event-test.true
    c.event-item.is))
