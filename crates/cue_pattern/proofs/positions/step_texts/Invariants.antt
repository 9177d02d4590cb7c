use Rattle.std.proofs.Common.{ℕ, false, ◌≡◌, ◌<◌, length, get_or, drop}
use Rattle.std.specs.List.{list_any}
use Rattle.cue_pattern.specs.Steps.{leads}
use Rattle.cue_pattern.proofs.positions.step_texts.Given as goal

abbrev pub invariant-loop-i : goal.invariant-loop-i
invariant-loop-i l = record {
  same_length : length l.reached ≡ length l.initial.reached;
  moved : (k : ℕ) → k < l.i
      → get_or l.reached k false ≡ list_any (λ u. leads u (drop k l.text) (drop k l.initial.reached)) l.texts;
  ahead : drop l.i l.reached ≡ drop l.i l.initial.reached;
}
