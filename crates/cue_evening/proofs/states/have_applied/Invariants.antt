use Rattle.std.proofs.Common.{◌≡◌, take}
use Rattle.cue_core.specs.Steps.{after_events}
use Rattle.cue_evening.proofs.states.have_applied.Given as goal

abbrev pub invariant-loop-event : goal.invariant-loop-event
invariant-loop-event l = l.state ≡ after_events l.initial.state (take l.event-index l.batch)
