use Rattle.std.proofs.Common.{◌≡◌, ◌++◌, drop, map, take}
use Rattle.cue_whereabouts.specs.Text.{with_part}
use Rattle.cue_whereabouts.proofs.text.take_each.Given as goal

-- those so far are changed, and the others are as they were
abbrev pub invariant-loop-known : goal.invariant-loop-known
invariant-loop-known l =
    l.known-items ≡ map (with_part l.device l.last) (take l.known-index l.initial.known-items)
    ++ drop l.known-index l.initial.known-items
