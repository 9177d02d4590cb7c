use Rattle.std.proofs.Common.{ℕ, ◌≡◌, List, length, take, drop}
use Rattle.cue_pattern.specs.Matching.{part_matches}
use Rattle.cue_pattern.specs.Lanes.{Stands, Reaches}
use Rattle.cue_pattern.proofs.each.matching_lanes.Given as goal

-- the pieces behind those that are left
abbrev pub invariant-loop-rest : goal.invariant-loop-rest
invariant-loop-rest l = record {
  before : l.rest ≡ take (length l.rest) l.part;
  told : (j : ℕ) (name : List ℕ) → Stands l.lanes j name
      → Reaches (part_matches (drop (length l.rest) l.part)) name j l.reached;
}

abbrev pub decreases-loop-rest : goal.decreases-loop-rest
decreases-loop-rest l = length l.rest
