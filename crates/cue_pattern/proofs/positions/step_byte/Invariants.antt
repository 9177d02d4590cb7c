use Rattle.std.proofs.Common.{ℕ, false, ◌&&◌, ◌≡◌, ◌+◌, ◌<◌, ◌≤◌, get_or}
use Rattle.cue_pattern.specs.Matching.{takes}
use Rattle.cue_pattern.proofs.positions.step_byte.Given as goal

abbrev pub invariant-loop-i : goal.invariant-loop-i
invariant-loop-i l = record {
  moved : (k : ℕ) → k < l.i
      → get_or l.reached k false ≡ (takes l.piece (get_or l.text k 0) && get_or l.initial.reached (k + 1) false);
  ahead : (k : ℕ) → l.i ≤ k → get_or l.reached k false ≡ get_or l.initial.reached k false;
}
