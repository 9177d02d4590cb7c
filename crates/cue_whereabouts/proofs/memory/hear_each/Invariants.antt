use Rattle.std.proofs.Common.{◌≡◌, ◌++◌, drop, map, take}
use Rattle.cue_whereabouts.specs.Memory.{known_after}
use Rattle.cue_whereabouts.proofs.memory.hear_each.Given as goal

-- those so far are changed, and the others are as they were
abbrev pub invariant-loop-known : goal.invariant-loop-known
invariant-loop-known l =
    l.known-items ≡ map (known_after l.show l.events) (take l.known-index l.initial.known-items)
    ++ drop l.known-index l.initial.known-items
