use Rattle.std.proofs.Common.{◌≡◌, drop}
use Rattle.cue_evening.specs.Replies.{with_new}
use Rattle.cue_evening.proofs.made.push_all_new.Given as goal

abbrev pub invariant-loop-event : goal.invariant-loop-event
invariant-loop-event l = with_new l.more.items (drop l.event-index l.events) ≡ with_new l.fn.more.items l.events
