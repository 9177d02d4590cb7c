use Rattle.std.proofs.Common.{ℕ, ◌≡◌, ◌+◌, ◌<◌, ◌≤◌, get_or}
use Rattle.std.specs.Prelude.{bit_and}
use Rattle.cue_pattern.proofs.lane_steps.step_row.Given as goal

abbrev pub invariant-loop-k : goal.invariant-loop-k
invariant-loop-k l = record {
  moved : (k : ℕ) → k < l.k
      → get_or l.reached k 0 ≡ bit_and (get_or l.row k 0) (get_or l.initial.reached (k + 1) 0);
  ahead : (k : ℕ) → l.k ≤ k → get_or l.reached k 0 ≡ get_or l.initial.reached k 0;
}
