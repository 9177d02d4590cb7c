use Rattle.std.proofs.Common.{◌≡◌, ◌++◌, take}
use Rattle.cue_copies.proofs.telling.push_events.Given as goal

abbrev pub invariant-loop-event : goal.invariant-loop-event
invariant-loop-event l = record {
  so_far : l.events.items ≡ l.initial.events.items ++ take l.event-index l.batch;
}
