use Rattle.std.proofs.Common.{rules}
use Rattle.cue_outbox.specs.Sending.{datagram, order_content, send_content}
use Rattle.cue_outbox.proofs.orders.cancel.Goals as goal

pub returns : goal.returns
unfolding datagram send_content order_content
returns c = search rules
