use Rattle.std.proofs.Common.{ℕ, ◌≡◌, ◌+◌, ◌<◌, ◌≤◌, get_or}
use Rattle.std.specs.Prelude.{bit_or}
use Rattle.cue_pattern.proofs.lane_steps.step_many.Given as goal

abbrev pub invariant-loop-k : goal.invariant-loop-k
invariant-loop-k l = record {
  within : l.k ≤ 16;
  moved : (k : ℕ) → l.k ≤ k → k < 16
      → get_or l.reached k 0 ≡ bit_or (get_or l.initial.reached k 0) (get_or l.reached (k + 1) 0);
  ahead : (k : ℕ) → k < l.k → get_or l.reached k 0 ≡ get_or l.initial.reached k 0;
  past : (k : ℕ) → 16 ≤ k → get_or l.reached k 0 ≡ get_or l.initial.reached k 0;
}

abbrev pub decreases-loop-k : goal.decreases-loop-k
decreases-loop-k l = l.k
