use Rattle.std.proofs.Common.{◌∙◌, ap, sym}
use Rattle.cue_core.specs.Steps.{after}
use Rattle.cue_core.proofs.rules.ApplyLemmas.{acceptable-next, after_events-more}
use Rattle.cue_core.proofs.state.State.apply_all.Goals as goal

pub loop-event-preserved : goal.loop-event-preserved
loop-event-preserved c = record {
  so_far = c.in_ok-apply.ensures.ok ∙ (ap (λ s. after s c.event-item.result) c.loop-event.invariant.so_far
      ∙ sym (after_events-more c.args.self.now c.args.events.now c.loop-event.event-index c.event-item.result
      c.loop-event-test.true c.event-item.is));
  rest = rw c.in_ok-apply.ensures.ok
      ((acceptable-next c.loop-event.self c.args.events.now c.loop-event.event-index c.event-item.result
      c.loop-event-test.true c.event-item.is c.loop-event.invariant.rest).1);
}
