use Rattle.std.proofs.Common.{◌≡◌, ◌++◌, ap, ◌∙◌, Bool}
use Rattle.cue_show.specs.Devices.{is_among}
use Rattle.cue_exchange.specs.declared.attempt.Attempt.{Attempt}
use Rattle.cue_outbox.specs.Asked.{is_asked}
use Rattle.cue_engine.specs.Accounts.{orders_for}
use Rattle.cue_engine.proofs.OrderingLemmas.{one-more}
use Rattle.cue_engine.proofs.ordering.all_orders.Goals as goal

pub loop-attempt-preserved : goal.loop-attempt-preserved
loop-attempt-preserved c =
    let live : c.as_slice-attempt-items.result.now ≡ c.args.state.now.live = c.as_slice-attempt-items.ensures.value
    ∙ c.live.ensures.value in
    let a : Attempt = c.attempt-item.result in
    one-more (λ (b : Attempt). orders_for (is_asked b.seq c.args.batch.now) c.args.state.now b b.answers)
    c.args.state.now.live c.loop-attempt.orders.items (rw live at c.loop-attempt-test.true)
    (rw live at c.attempt-item.is)
    (c.in_ok-push_orders.ensures
    ∙ ap (λ (b : Bool). c.loop-attempt.orders.items ++ orders_for b c.args.state.now a a.answers)
    (c.is_among.ensures ∙ (ap (is_among a.seq) c.deref.ensures.value ∙ c.in_ok-numbers.ensures.exact a.seq)))
    c.loop-attempt.invariant
