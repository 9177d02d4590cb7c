-- Lists of seats, of which one is changed.
use Rattle.std.proofs.Common.{◌≡◌, ℕ, zero, suc, List, [], ◌∷◌, length, Some, refl, ap, subst}
use Rattle.std.specs.Prelude.{slice_get, slice_set}
use Rattle.std.specs.List.{AllByRecursion}
use Rattle.std.proofs.lemmas.Option.{none-some, same_Some}
use Rattle.cue_rehearsal_machine.specs.declared.seat.Seat.{Seat}

pub set_same : (xs : List Seat) (k : ℕ) (old x : Seat) → slice_get xs k ≡ Some old
    → slice_get (slice_set xs k x) k ≡ Some x
set_same [] k old x h = absurd (none-some old h)
set_same (y ∷ ys) zero old x h = refl
set_same (y ∷ ys) (suc k) old x h = set_same ys k old x h

pub set_other : (xs : List Seat) (j k : ℕ) (x : Seat) → (j ≡ k → ⊥) → slice_get (slice_set xs j x) k ≡ slice_get xs k
set_other [] j k x h = refl
set_other (y ∷ ys) zero zero x h = absurd (h refl)
set_other (y ∷ ys) zero (suc k) x h = refl
set_other (y ∷ ys) (suc j) zero x h = refl
set_other (y ∷ ys) (suc j) (suc k) x h = set_other ys j k x (λ e. h (ap suc e))

pub set_length : (xs : List Seat) (j : ℕ) (x : Seat) → length (slice_set xs j x) ≡ length xs
set_length [] j x = refl
set_length (y ∷ ys) zero x = refl
set_length (y ∷ ys) (suc j) x = ap suc (set_length ys j x)

pub all_at : (P : Seat → Type 0) (xs : List Seat) (k : ℕ) (x : Seat)
    → AllByRecursion P xs → slice_get xs k ≡ Some x → P x
all_at P [] k x h e = absurd (none-some x e)
all_at P (y ∷ ys) zero x h e = subst P (same_Some y x e) h.0
all_at P (y ∷ ys) (suc k) x h e = all_at P ys k x h.1 e
