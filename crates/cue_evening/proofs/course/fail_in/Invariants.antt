use Rattle.std.proofs.Common.{◌≡◌, ◌++◌, drop, map, take}
use Rattle.cue_evening.specs.Course.{failing}
use Rattle.cue_evening.proofs.course.fail_in.Given as goal

abbrev pub invariant-loop-followed : goal.invariant-loop-followed
invariant-loop-followed l =
    l.followed-items ≡ map (failing l.seq l.failure) (take l.followed-index l.initial.followed-items)
    ++ drop l.followed-index l.initial.followed-items
