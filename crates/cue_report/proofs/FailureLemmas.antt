-- Devices that failed, by the front of a list.
use Rattle.std.proofs.Common.{◌≡◌, ℕ, ◌+◌, List, ap, add-one}
use Rattle.cue_log_lines.specs.Listed.{failure_at}
use Rattle.cue_report.specs.Seen.{Seen, failure_taken, failures_taken}

-- one more
pub failures_more : (count : ℕ) (text : List ℕ) (a : Seen) (left : List ℕ) (s : Seen) → (left, s) ≡ failures_taken count text a → failure_taken (failure_at left) s ≡ failures_taken (count + 1) text a
unfolding failures_taken
failures_more count text a left s e = rw add-one (ap (λ (x : List ℕ × Seen). failure_taken (failure_at x.0) x.1) e)
