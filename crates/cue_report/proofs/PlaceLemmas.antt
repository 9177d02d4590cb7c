-- What is changed at one place of a list, and what follows from a call that met no fault.
use Rattle.std.proofs.Common.{◌≡◌, ℕ, ◌<◌, zero, suc, List, [], ◌∷◌, length, map, refl, ap, arith, slice_index_or, slice_set, OnOk}
use Rattle.std.proofs.lemmas.Result.{on_ok_weaker}
use Rattle.std.specs.Prelude.{Err, Ok, Result}
use Rattle.cue_report.specs.Picture.{changed_at}

-- a thing of a list is changed by writing it there, seen by view
pub changed_by_set : {A B : Type 0} (view : A → B) (change : B → B) (xs : List A) (place : ℕ) (old new : A) → old ≡ slice_index_or xs place old → view new ≡ change (view old) → map view (slice_set xs place new) ≡ changed_at place change (map view xs)
changed_by_set view change [] place old new at e = refl
changed_by_set view change (x ∷ xs) zero old new at e = cc (at, e)
changed_by_set view change (x ∷ xs) (suc place) old new at e = ap (λ ys. view x ∷ ys) (changed_by_set view change xs place old new at e)

-- past its end nothing is changed
pub changed_past_end : {A B : Type 0} (view : A → B) (change : B → B) (xs : List A) (place : ℕ) → (place < length xs → ⊥) → map view xs ≡ changed_at place change (map view xs)
changed_past_end view change [] place past = refl
changed_past_end view change (x ∷ xs) zero past = absurd (past (omega arith))
changed_past_end view change (x ∷ xs) (suc place) past = ap (λ ys. view x ∷ ys) (changed_past_end view change xs place (λ h. past (omega (arith, h))))

-- what follows where a call met no fault
pub after_ok : {T E P Q : Type 0} (r : Result T E) → OnOk r P → (P → Q) → OnOk r Q
after_ok r h f = on_ok_weaker r f h

-- what holds anyway
pub always : {T E P : Type 0} (r : Result T E) → P → OnOk r P
always (Ok x) h = h
always (Err e) h = tt
