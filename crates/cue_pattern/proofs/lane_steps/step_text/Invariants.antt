use Rattle.std.proofs.Common.{ℕ, ◌≡◌, Bool, List, length, take, drop}
use Rattle.cue_pattern.specs.Matching.{after_text}
use Rattle.cue_pattern.specs.Lanes.{Stands, Reaches}
use Rattle.cue_pattern.proofs.lane_steps.step_text.Given as goal

-- the bytes behind those that are left
abbrev pub invariant-loop-left : goal.invariant-loop-left
invariant-loop-left l = record {
  before : l.left ≡ take (length l.left) l.text;
  told : (j : ℕ) (name : List ℕ) (rest : List ℕ → Bool) → Stands l.lanes j name
      → Reaches rest name j l.initial.reached
      → Reaches (after_text (drop (length l.left) l.text) rest) name j l.reached;
}

abbrev pub decreases-loop-left : goal.decreases-loop-left
decreases-loop-left l = length l.left
