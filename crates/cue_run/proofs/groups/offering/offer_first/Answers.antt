use Rattle.std.proofs.Common.{length}
use Rattle.cue_run.proofs.groups.offering.offer_first.Goals as goal

pub returns-in_ok-offer_one-in-Ok-Tick-clause-offered : goal.returns-in_ok-offer_one-in-Ok-Tick-clause-offered
returns-in_ok-offer_one-in-Ok-Tick-clause-offered g c =
    c.in_ok-offer_one-in-Ok-Tick.ensures.offered (length c.args.buffer.now) (g.S.Source.left c.args.source.now)
    (g.S.Source.left c.next.new.self) (rw c.in-Ok-Tick.field-0-is at c.in-Ok-Tick.ensures.gave)

pub returns-in_ok-changes-in-Ok-Datagram-clause-offered :
    goal.returns-in_ok-changes-in-Ok-Datagram-clause-offered
returns-in_ok-changes-in-Ok-Datagram-clause-offered g c =
    c.in_ok-changes-in-Ok-Datagram.ensures.offered (length c.args.buffer.now) (g.S.Source.left c.args.source.now)
    (g.S.Source.left c.next.new.self) (rw c.in-Ok-Datagram.field-0-is at c.in-Ok-Datagram.ensures.gave)
