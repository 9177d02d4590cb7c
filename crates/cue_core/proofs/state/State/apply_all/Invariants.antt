use Rattle.std.proofs.Common.{◌≡◌, IsTrue, take, drop}
use Rattle.cue_core.specs.Steps.{are_acceptable, after_events}
use Rattle.cue_core.proofs.state.State.apply_all.Given as goal

abbrev pub invariant-loop-event : goal.invariant-loop-event
invariant-loop-event l = record {
  so_far : l.self ≡ after_events l.initial.self (take l.event-index l.events);
  rest : IsTrue (are_acceptable l.self (drop l.event-index l.events));
}
