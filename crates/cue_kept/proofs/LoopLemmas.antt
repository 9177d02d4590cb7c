-- Items that are read one after the other: those so far, and what the rest of the text says.
use Rattle.std.proofs.Common.{◌≡◌, ◌∙◌, ℕ, suc, ◌+◌, ◌-◌, ◌<◌, List, [], ◌∷◌, ◌++◌, Option, Some, None, refl, ap}
use Rattle.std.proofs.Common.{append_assoc, append-nil, arith}
use Rattle.cue_log_lines.specs.Pieces.{◌>>=◌}
use Rattle.cue_kept.specs.Reading.{before, items_at}

-- those so far, before those that were found
abbrev pub onto : {A : Type 0} → List A → Option (List A × List ℕ) → Option (List A × List ℕ)
onto items None = None
onto items (Some found) = Some (items ++ found.0, found.1)

pub onto_start : {A : Type 0} (found : Option (List A × List ℕ)) → found ≡ onto [] found
onto_start None = refl
onto_start (Some found) = refl

onto-before : {A : Type 0} (items : List A) (a : A) (found : Option (List A × List ℕ))
    → onto items (before a found) ≡ onto (items ++ a ∷ []) found
onto-before items a None = refl
onto-before items a (Some found) = rw (append_assoc items (a ∷ []) found.0) refl

pub onto_step : {A : Type 0} (at : List ℕ → Option (A × List ℕ)) (count k : ℕ) (items : List A)
    (rest more : List ℕ) (a : A)
    → k < count → at rest ≡ Some (a, more)
    → onto items (items_at at (count - k) rest) ≡ onto (items ++ a ∷ []) (items_at at (count - (k + 1)) more)
onto_step at count k items rest more a low found =
    let one : count - k ≡ suc (count - (k + 1)) = omega arith in
    ap (λ n. onto items (items_at at n rest)) one
    ∙ ap (λ x. onto items (x >>= λ i. before i.0 (items_at at (count - (k + 1)) i.1))) found
    ∙ onto-before items a (items_at at (count - (k + 1)) more)

pub onto_stop : {A : Type 0} (at : List ℕ → Option (A × List ℕ)) (count k : ℕ) (items : List A) (rest : List ℕ)
    → k < count → at rest ≡ None → onto items (items_at at (count - k) rest) ≡ None
onto_stop at count k items rest low found =
    let one : count - k ≡ suc (count - (k + 1)) = omega arith in
    ap (λ n. onto items (items_at at n rest)) one
    ∙ ap (λ x. onto items (x >>= λ i. before i.0 (items_at at (count - (k + 1)) i.1))) found

pub onto_end : {A : Type 0} (at : List ℕ → Option (A × List ℕ)) (count k : ℕ) (items : List A) (rest : List ℕ)
    → count ≡ k → onto items (items_at at (count - k) rest) ≡ Some (items, rest)
onto_end at count k items rest done =
    let none : count - k ≡ 0 = omega arith in
    ap (λ n. onto items (items_at at n rest)) none ∙ ap (λ x. Some (x, rest)) (append-nil items)
