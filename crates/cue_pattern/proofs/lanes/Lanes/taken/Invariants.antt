use Rattle.std.proofs.Common.{ℕ, ◌+◌, ◌&&◌, List}
use Rattle.std.specs.Prelude.{nat_lt}
use Rattle.cue_pattern.specs.Matching.{takes}
use Rattle.cue_pattern.specs.Lanes.{Stands, Marks}
use Rattle.cue_pattern.proofs.lanes.Lanes.taken.Given as goal

-- the letters so far
abbrev pub invariant-loop-letter : goal.invariant-loop-letter
invariant-loop-letter l =
    (j : ℕ) (text : List ℕ) → Stands l.self j text
    → Marks (λ b. takes l.piece b && nat_lt b (46 + l.letter)) text j l.row
