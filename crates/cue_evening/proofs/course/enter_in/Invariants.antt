use Rattle.std.proofs.Common.{◌≡◌, ◌++◌, drop, map, take}
use Rattle.cue_evening.specs.Course.{entering}
use Rattle.cue_evening.proofs.course.enter_in.Given as goal

abbrev pub invariant-loop-followed : goal.invariant-loop-followed
invariant-loop-followed l =
    l.followed-items ≡ map (entering l.seq l.stage) (take l.followed-index l.initial.followed-items)
    ++ drop l.followed-index l.initial.followed-items
