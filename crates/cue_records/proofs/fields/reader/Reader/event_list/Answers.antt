use Rattle.std.proofs.lemmas.Result.{err_from_is_err_and}
use Rattle.cue_records.specs.Reading.{list_at}
use Rattle.cue_records.specs.BatchReading.{event_at}
use Rattle.cue_records.proofs.CountedLemmas.{goes_on, ends, is_done}
use Rattle.cue_records.proofs.fields.reader.Reader.event_list.Goals as goal

pub returns-in_err-event : goal.returns-in_err-event
returns-in_err-event c =
    let p = err_from_is_err_and c.from_residual.result c.from_residual.ensures.1 in
    rw (p.1, p.2) (ends event_at c.in_err-event.field-0.0 c.loop.events.items c.args.count c.loop.counter
    c.loop.self.rest.now (list_at event_at c.args.count c.args.self.now.rest.now) c.loop-test.true
    c.in_err-event.ensures c.loop.invariant)

pub loop-preserved : goal.loop-preserved
loop-preserved c =
    rw c.in_ok-push.ensures.items (goes_on event_at c.loop.events.items c.args.count c.loop.counter c.loop.self.rest.now
    c.in_ok-event.event c.event.new.self.rest.now (list_at event_at c.args.count c.args.self.now.rest.now)
    c.loop-test.true c.in_ok-event.ensures c.loop.invariant)

pub returns : goal.returns
returns c = is_done event_at c.loop.events.items c.args.count c.loop.counter c.loop.self.rest.now
    (list_at event_at c.args.count c.args.self.now.rest.now) c.loop-test.false c.loop.invariant
