use Rattle.std.proofs.Common.{ℕ, ◌≡◌, ◌<◌, ◌≤◌, get_or}
use Rattle.std.specs.Prelude.{bit_or}
use Rattle.cue_pattern.proofs.lane_steps.join.Given as goal

abbrev pub invariant-loop-k : goal.invariant-loop-k
invariant-loop-k l = record {
  moved : (k : ℕ) → k < l.k → get_or l.reached k 0 ≡ bit_or (get_or l.initial.reached k 0) (get_or l.other k 0);
  ahead : (k : ℕ) → l.k ≤ k → get_or l.reached k 0 ≡ get_or l.initial.reached k 0;
}
