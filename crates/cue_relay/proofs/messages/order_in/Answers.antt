use Rattle.std.proofs.Common.{arith}
use Rattle.cue_relay.proofs.MessageLemmas.{order_in-is}
use Rattle.cue_relay.proofs.messages.order_in.Goals as goal

pub returns : goal.returns
returns c =
    order_in-is c.args.device c.args.datagram.now c.command.result (omega (arith, c.number-range.ensures.range))
    c.command.ensures.found c.command.ensures.none
