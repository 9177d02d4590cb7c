use Rattle.std.proofs.Common.{arith, ap, length}
use Rattle.std.proofs.lemmas.List.{with_items_is}
use Rattle.cue_web.proofs.RoundLemmas.{first_all, first_more, first_none}
use Rattle.cue_web.proofs.connections.serve_each.Goals as goal

pub loop-connection-init : goal.loop-connection-init
loop-connection-init g c =
    first_none c.args.pages.now.identity c.args.pages.now.guard c.args.now
    c.deref_mut-connection-items.result.now c.args.desk.now.station

pub loop-connection-preserved : goal.loop-connection-preserved
loop-connection-preserved g c =
    first_more c.args.pages.now.identity c.loop-connection.pages.identity c.serve_next.new.pages.identity
    c.args.pages.now.guard c.loop-connection.pages.guard c.serve_next.new.pages.guard c.args.now
    c.deref_mut-connection-items.result.now c.loop-connection.connection-items c.loop-connection.connection-index
    c.connection-item.result c.serve_next.new.connection c.args.desk.now.station c.loop-connection.desk.station
    c.serve_next.new.desk.station c.loop-connection.desk.view c.serve_next.new.desk.view (omega arith)
    c.loop-connection.invariant c.serve_next.ensures.serves c.serve_next.ensures.once c.serve_next.ensures.identity

pub returns-clause-each : goal.returns-clause-each
returns-clause-each g c =
    let lent = c.deref_mut-connection-items.ensures.value in
    rw (with_items_is c.args.here.now c.loop-connection.connection-items (omega (arith, ap length lent)), ← lent)
    (first_all c.args.pages.now.identity c.loop-connection.pages.identity c.args.pages.now.guard
    c.loop-connection.pages.guard c.args.now c.deref_mut-connection-items.result.now
    c.loop-connection.connection-items c.loop-connection.connection-index c.args.desk.now.station
    c.loop-connection.desk.station (omega arith) c.loop-connection.invariant)
