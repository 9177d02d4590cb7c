use Rattle.std.proofs.Common.{ℕ, ◌≡◌, ◌+◌, ◌*◌, ◌<◌, ◌≤◌, get_or}
use Rattle.std.specs.Prelude.{bit_or}
use Rattle.cue_pattern.proofs.lanes.Lanes.add.Given as goal

abbrev pub invariant-loop-k : goal.invariant-loop-k
invariant-loop-k l = record {
  moved : (k : ℕ) → k < l.k
      → get_or l.row k 0 ≡ bit_or (get_or l.initial.row k 0) (get_or l.self.letters (l.letter * 17 + k) 0);
  ahead : (k : ℕ) → l.k ≤ k → get_or l.row k 0 ≡ get_or l.initial.row k 0;
}
