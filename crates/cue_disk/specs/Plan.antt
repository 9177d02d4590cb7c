-- Which of its next calls a memory disk fails.
use Rattle.std.specs.Prelude.{◌≡◌, ◌<◌, ◌+◌, ◌-◌, ℕ, nat_lt, ◌==◌, if◌then◌else◌, Bool, true, false, Option, Some, None}
use Rattle.cue_disk.specs.declared.plan.Plan.{Plan}
use Rattle.cue_disk.specs.declared.plan.CallOutcome.{CallOutcome}
use Rattle.cue_disk.specs.declared.plan.CallOutcome.TheVariants.{Succeeds, Fails, Stopped}

-- Nothing is planned: each call succeeds.
abbrev pub no_plan : Plan
no_plan = record { fail_in = 0; stop_in = None }

-- The n-th call from now, of a disk that fails the k-th: the number 0 stands for no call.
abbrev pub fails_at : ℕ → ℕ → CallOutcome
fails_at k n = if n == k then Fails else Succeeds

-- The n-th call from now, of a disk that stops at the k-th: that call fails, and each later one finds the disk stopped.
abbrev pub stops_at : ℕ → ℕ → CallOutcome → CallOutcome
stops_at k n other = if nat_lt k n then Stopped else (if n == k then Fails else other)

-- What is planned for the n-th call from now, where the next one is the first.
abbrev pub outcome_with : Option ℕ → ℕ → CallOutcome → CallOutcome
outcome_with None n other = other
outcome_with (Some k) n other = stops_at k n other

abbrev pub outcome_of : Plan → ℕ → CallOutcome
outcome_of plan n = outcome_with plan.stop_in n (fails_at plan.fail_in n)

-- No failure is planned.
abbrev pub goes_through : CallOutcome → Bool
goes_through Succeeds = true
goes_through Fails = false
goes_through Stopped = false

-- one call less to go
abbrev pub one_less : Option ℕ → Option ℕ
one_less None = None
one_less (Some k) = Some (k - 1)

-- the plan as it stands after one call
abbrev pub after_one : Plan → Plan
after_one plan = record { fail_in = plan.fail_in - 1; stop_in = one_less plan.stop_in }

-- The k-th call from now fails.
abbrev pub FailsAt : ℕ → Plan → Type 0
FailsAt k plan = 0 < k → goes_through (outcome_of plan k) ≡ false

-- The k-th call from now and all later ones fail, and the later ones find the disk stopped.
pub record StopsAt (k : ℕ) (plan : Plan) : Type 0 where
  pub fails : 0 < k → goes_through (outcome_of plan k) ≡ false
  pub stopped : (n : ℕ) → k < n → outcome_of plan n ≡ Stopped

-- After one call the n-th from then on is what was the one after the n-th.
abbrev pub PlanGoesOn : Type 0
PlanGoesOn = (plan : Plan) (n : ℕ) → 0 < n → outcome_of (after_one plan) n ≡ outcome_of plan (n + 1)
