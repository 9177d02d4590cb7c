use Rattle.std.proofs.Common.{◌≡◌, ◌++◌, drop, map}
use Rattle.cue_pattern.specs.Matching.{part_matches}
use Rattle.cue_pattern.proofs.each.push_lanes.Given as goal

-- what was found, and what the other names give, is all
abbrev pub invariant-loop-lane : goal.invariant-loop-lane
invariant-loop-lane l =
    l.matched.items ++ drop l.lane (map (λ name. part_matches l.part name.now) l.names)
    ≡ l.initial.matched.items ++ map (λ name. part_matches l.part name.now) l.names
