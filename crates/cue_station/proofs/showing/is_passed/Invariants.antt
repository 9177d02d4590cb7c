use Rattle.std.proofs.Common.{◌≡◌, drop}
use Rattle.cue_station.specs.Showing.{is_passed, passed_after}
use Rattle.cue_station.proofs.showing.is_passed.Given as goal

-- the events that are left make of this what all of them make
abbrev pub invariant-loop-event : goal.invariant-loop-event
invariant-loop-event l = passed_after l.seq (drop l.event-index l.events) l.passed ≡ is_passed l.seq l.events
