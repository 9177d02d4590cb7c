use Rattle.std.proofs.Common.{◌≡◌, ◌+◌, ◌≤◌, length, drop, min}
use Rattle.std.specs.List.{flat_map}
use Rattle.cue_records.specs.Batch.{event_text}
use Rattle.cue_records.proofs.batch.length.events_len.Given as goal

-- what was counted, and the events that are left, are all
abbrev pub invariant-loop-event : goal.invariant-loop-event
invariant-loop-event l = record {
  counted : min (l.len + length (flat_map event_text (drop l.event-index l.events))) 18446744073709551615 ≡ min
      (length (flat_map event_text l.events)) 18446744073709551615;
  fits : l.len ≤ 18446744073709551615;
}
