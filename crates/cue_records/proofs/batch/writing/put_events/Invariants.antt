use Rattle.std.proofs.Common.{◌≡◌, ◌++◌, drop, IsTrue}
use Rattle.std.specs.List.{flat_map, list_all}
use Rattle.cue_records.specs.Batch.{is_event, event_text}
use Rattle.cue_records.proofs.batch.writing.put_events.Given as goal

-- what was written, and the events that are left, are all
abbrev pub invariant-loop-event : goal.invariant-loop-event
invariant-loop-event l = record {
  written : l.out.items ++ flat_map event_text (drop l.event-index l.events) ≡ l.fn.out.items ++ flat_map event_text
      l.events;
  fit : IsTrue (list_all is_event (drop l.event-index l.events));
}
