use Rattle.std.proofs.Common.{ℕ, ◌≡◌, ◌≢◌, ◌+◌, ◌*◌, ◌<◌, ◌==◌, get_or, take}
use Rattle.cue_pattern.specs.Lanes.{lane, stands_at}
use Rattle.cue_pattern.proofs.lanes.Lanes.put.Given as goal

-- the bytes so far stand in the lane, and nothing else has changed
abbrev pub invariant-loop-k : goal.invariant-loop-k
invariant-loop-k l = record {
  here : (m k : ℕ) → m < 12 → k < 17
      → lane l.lane (get_or l.self.letters (m * 17 + k) 0) ≡ stands_at (λ b. 46 + m == b) (take l.k l.name) k;
  others : (j i : ℕ) → j ≢ l.lane
      → lane j (get_or l.self.letters i 0) ≡ lane j (get_or l.initial.self.letters i 0);
  ends : l.self.ends ≡ l.initial.self.ends;
}
