use Rattle.std.proofs.Common.{◌≡◌, ◌-◌}
use Rattle.cue_records.specs.Reading.{list_at}
use Rattle.cue_records.specs.BatchReading.{event_at}
use Rattle.cue_records.proofs.CountedLemmas.{with_front}
use Rattle.cue_records.proofs.fields.reader.Reader.event_list.Given as goal

-- what was read, and the events that are left, are all
abbrev pub invariant-loop : goal.invariant-loop
invariant-loop l = with_front l.events.items (list_at event_at (l.count - l.counter) l.self.rest.now) ≡ list_at event_at
    l.count l.fn.self.rest.now
