use Rattle.std.proofs.Common.{ℕ, ◌<◌, ◌≤◌, [], map, get_or}
use Rattle.cue_pattern.specs.Lanes.{Stands, IsBlank}
use Rattle.cue_pattern.proofs.lanes.Lanes.of.Given as goal

-- the names so far stand in their lanes
abbrev pub invariant-loop-lane : goal.invariant-loop-lane
invariant-loop-lane l = record {
  stands : (j : ℕ) → j < l.lane → Stands l.lanes j (get_or (map (λ name. name.now) l.names) j []);
  blank : (j : ℕ) → l.lane ≤ j → IsBlank l.lanes j;
}
