use Rattle.std.proofs.Common.{ℕ, false, ◌||◌, ◌≡◌, ◌+◌, ◌<◌, ◌≤◌, length, get_or}
use Rattle.cue_pattern.proofs.positions.step_many.Given as goal

abbrev pub invariant-loop-i : goal.invariant-loop-i
invariant-loop-i l = record {
  within : l.i ≤ length l.text;
  moved : (k : ℕ) → l.i ≤ k → k < length l.text
      → get_or l.reached k false ≡ (get_or l.initial.reached k false || get_or l.reached (k + 1) false);
  ahead : (k : ℕ) → k < l.i → get_or l.reached k false ≡ get_or l.initial.reached k false;
  end : get_or l.reached (length l.text) false ≡ get_or l.initial.reached (length l.text) false;
}

abbrev pub decreases-loop-i : goal.decreases-loop-i
decreases-loop-i l = l.i
