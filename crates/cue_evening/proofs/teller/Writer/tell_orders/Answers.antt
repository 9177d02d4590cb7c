use Rattle.std.proofs.Common.{◌∙◌, ◌++◌}
use Rattle.cue_evening.specs.Looks.{order_entries}
use Rattle.cue_evening.proofs.LogLemmas.{grew_more, orders_step}
use Rattle.cue_evening.proofs.teller.Writer.tell_orders.Goals as goal

pub loop-order-preserved : goal.loop-order-preserved
loop-order-preserved g c =
    let so_far = c.loop-order.invariant in
    let more = order_entries c.args.last c.order-item.result c.take-is_sent.result c.loop-order.self.course in (
      so_far.0 ++ more,
      grew_more _ _ _ so_far.0 more so_far.1 c.tell_order.ensures.page,
      orders_step c.args.last c.args.sent.orders.now c.loop-order.order-index c.order-item.result _ _ _ _ _ so_far.0 _
          c.loop-order-test.true c.order-item.is c.take-is_sent.ensures.left c.take-is_sent.ensures.rest
          c.tell_order.ensures.course so_far.2,
      c.tell_order.ensures.course ∙ so_far.3,
    )
