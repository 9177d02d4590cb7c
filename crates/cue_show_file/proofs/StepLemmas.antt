-- A text that grows by one entry of a list after the other.
use Rattle.std.proofs.Common.{◌≡◌, ◌∙◌, ℕ, ◌+◌, ◌<◌, List, ◌++◌, drop, get_or, length, ap, append_assoc, sym}
use Rattle.std.specs.List.{flat_map}
use Rattle.std.proofs.lemmas.List.{drop_more}

pub one-more : {A : Type 0} (text : A → List ℕ) (xs : List A) (i : ℕ) (x : A) (old new all : List ℕ) → i < length xs
    → x ≡ get_or xs i x → new ≡ old ++ text x → old ++ flat_map text (drop i xs) ≡ all
    → new ++ flat_map text (drop (i + 1) xs) ≡ all
one-more text xs i x old new all within is grown before =
    let rest : List ℕ = flat_map text (drop (i + 1) xs) in
    ap (λ t. t ++ rest) grown
    ∙ (append_assoc old (text x) rest
    ∙ (ap (λ y. old ++ (text y ++ rest)) is
    ∙ (sym (ap (λ ys. old ++ flat_map text ys) (drop_more xs i x within)) ∙ before)))
