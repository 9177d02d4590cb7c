use Rattle.std.proofs.Common.{◌∙◌}
use Rattle.cue_evening.specs.Looks.{hears_reply}
use Rattle.cue_evening.proofs.LogLemmas.{bits_step, events_step, hears_step, meets_step}
use Rattle.cue_evening.proofs.teller.Writer.hear.Goals as goal

pub loop-reply-preserved : goal.loop-reply-preserved
loop-reply-preserved g c =
    let so_far = c.loop-reply.invariant in
    let low = c.loop-reply-test.true in
    let is = c.reply-item.is in
    let replies = c.args.sent.now.replies.now in
    let step =
    hears_step c.args.state.now replies c.loop-reply.reply-index c.reply-item.result c.loop-reply.rest.now c.cut.result.0.now
    c.cut.result.1.now c.loop-reply.sent.left.now c.take-is_sent.new.self.left.now c.take-is_sent.result low is
    c.cut.ensures.front c.cut.ensures.rest c.take-is_sent.ensures.left c.take-is_sent.ensures.rest in (
      meets_step _ _ (hears_reply c.args.state.now c.reply-item.result c.take-is_sent.result c.cut.result.0.now c.cut.result.1.now)
          _ _ _ _ step so_far.0 c.hear_reply.ensures,
      events_step replies c.loop-reply.reply-index c.reply-item.result c.loop-reply.rest.now c.cut.result.1.now _ low is
          c.cut.ensures.rest so_far.1,
      bits_step replies c.loop-reply.reply-index c.reply-item.result _ _ _ low is c.take-is_sent.ensures.rest so_far.2,
      c.take-is_sent.ensures.orders ∙ so_far.3,
    )
