use Rattle.cue_records.specs.Batch.{is_event, event_text}
use Rattle.cue_records.proofs.WrittenLemmas.{write_goes_on, fit_goes_on}
use Rattle.cue_records.proofs.batch.writing.put_events.Goals as goal

pub loop-event-preserved : goal.loop-event-preserved
loop-event-preserved c = record {
  written = write_goes_on event_text c.args.events.now c.loop-event.event-index c.event-item.result
      c.loop-event.out.items c.put_event.new.out.items _ c.loop-event-test.true c.event-item.is
      c.in_ok-put_event.ensures c.loop-event.invariant.written;
  fit = fit_goes_on is_event c.args.events.now c.loop-event.event-index c.event-item.result c.loop-event-test.true
      c.event-item.is c.loop-event.invariant.fit;
}
