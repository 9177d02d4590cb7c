-- One meter more.
use Rattle.std.proofs.Common.{◌≡◌, ℕ, ◌+◌, List, [], ◌∷◌, ◌++◌, replicate, ap, ◌∙◌}
use Rattle.std.proofs.lemmas.List.{replicate-append-replicate}

pub one_more : (n : ℕ) (xs : List (List ℕ)) (x : List ℕ) → xs ≡ replicate n [] → x ≡ []
    → xs ++ x ∷ [] ≡ replicate (n + 1) []
one_more n xs x e f =
    ap (λ (ys : List (List ℕ)). ys ++ x ∷ []) e
    ∙ (ap (λ (y : List ℕ). replicate n [] ++ y ∷ []) f ∙ replicate-append-replicate n 1 [])
