use Rattle.std.proofs.Common.{◌≡◌, None, drop}
use Rattle.cue_evening.specs.Replies.{last_place}
use Rattle.cue_evening.proofs.made.last_place.Given as goal

abbrev pub invariant-loop-event : goal.invariant-loop-event
invariant-loop-event l = last_place l.place (drop l.event-index l.events) ≡ last_place None l.events
