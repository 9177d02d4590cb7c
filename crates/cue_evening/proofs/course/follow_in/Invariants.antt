use Rattle.std.proofs.Common.{◌≡◌, ◌++◌, map, take}
use Rattle.cue_evening.specs.Course.{followed_of}
use Rattle.cue_evening.proofs.course.follow_in.Given as goal

abbrev pub invariant-loop-attempt : goal.invariant-loop-attempt
invariant-loop-attempt l = l.items.items ≡ l.fn.items.items ++ map followed_of (take l.attempt-index l.live)
