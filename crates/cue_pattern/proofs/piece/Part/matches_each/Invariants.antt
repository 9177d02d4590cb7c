use Rattle.std.proofs.Common.{◌≡◌, ◌≤◌, ◌-◌, length, take, map}
use Rattle.cue_pattern.specs.Matching.{part_matches}
use Rattle.cue_pattern.proofs.piece.Part.matches_each.Given as goal

-- the names so far
abbrev pub invariant-loop-from : goal.invariant-loop-from
invariant-loop-from l = record {
  within : l.from ≤ length l.names;
  found : l.matched.items ≡ map (λ name. part_matches l.self name.now) (take l.from l.names);
}

abbrev pub decreases-loop-from : goal.decreases-loop-from
decreases-loop-from l = length l.names - l.from
