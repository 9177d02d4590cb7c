-- A plan comes one call nearer with each call.
use Rattle.std.proofs.Common.{◌≡◌, ℕ, ◌+◌, ◌-◌, ◌<◌, ◌≤◌, ◌==◌, nat_lt, if◌then◌else◌, Option, Some, None, Bool, ⊎_elim}
use Rattle.std.proofs.Common.{sym, ◌∙◌, ap, arith}
use Rattle.std.proofs.lemmas.Bool.{cases_eq, cases_lt, eq-eqb, ne_eqb, lt-ltb, le-ltb}
use Rattle.cue_disk.specs.Plan.{PlanGoesOn, outcome_with, fails_at, one_less}
use Rattle.cue_disk.specs.declared.plan.CallOutcome.{CallOutcome}
use Rattle.cue_disk.specs.declared.plan.CallOutcome.TheVariants.{Succeeds, Fails, Stopped}

-- one call less on both sides of a test
same_call : (k n : ℕ) → 0 < n → (n == k - 1) ≡ (n + 1 == k)
same_call k n some =
    ⊎_elim
    (λ (same : n + 1 ≡ k). eq-eqb n (k - 1) (omega arith) ∙ sym (eq-eqb (n + 1) k same))
    (λ (other : n + 1 ≡ k → ⊥). ne_eqb n (k - 1) (λ (e : n ≡ k - 1). other (omega arith))
    ∙ sym (ne_eqb (n + 1) k other))
    (cases_eq (n + 1) k)

later_call : (k n : ℕ) → 0 < n → nat_lt (k - 1) n ≡ nat_lt k (n + 1)
later_call k n some =
    ⊎_elim
    (λ (later : k < n + 1). lt-ltb (k - 1) n (omega arith) ∙ sym (lt-ltb k (n + 1) later))
    (λ (not_later : n + 1 ≤ k). le-ltb (k - 1) n (omega arith) ∙ sym (le-ltb k (n + 1) not_later))
    (cases_lt k (n + 1))

fails_on : (k n : ℕ) → 0 < n → fails_at (k - 1) n ≡ fails_at k (n + 1)
fails_on k n some = ap (λ (b : Bool). if b then Fails else Succeeds) (same_call k n some)

with_on : (stop : Option ℕ) (fail n : ℕ) → 0 < n
    → outcome_with (one_less stop) n (fails_at (fail - 1) n) ≡ outcome_with stop (n + 1) (fails_at fail (n + 1))
with_on None fail n some = fails_on fail n some
with_on (Some k) fail n some =
    ap (λ (b : Bool). if b then Stopped else (if n == k - 1 then Fails else fails_at (fail - 1) n))
    (later_call k n some)
    ∙ ap (λ (b : Bool). if nat_lt k (n + 1) then Stopped else (if b then Fails else fails_at (fail - 1) n))
    (same_call k n some)
    ∙ ap (λ (f : CallOutcome). if nat_lt k (n + 1) then Stopped else (if n + 1 == k then Fails else f)) (fails_on fail n some)

pub plan_goes_on : PlanGoesOn
plan_goes_on plan n some = with_on plan.stop_in plan.fail_in n some
