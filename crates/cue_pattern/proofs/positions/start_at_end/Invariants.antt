use Rattle.std.proofs.Common.{ℕ, false, ◌≡◌, ◌<◌, get_or}
use Rattle.cue_pattern.proofs.positions.start_at_end.Given as goal

abbrev pub invariant-loop-i : goal.invariant-loop-i
invariant-loop-i l = (k : ℕ) → k < l.i → get_or l.reached k false ≡ false
