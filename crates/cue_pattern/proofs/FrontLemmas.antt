-- What was read so far, in front of what is read then.
use Rattle.std.proofs.Common.{◌≡◌, List, [], ◌∷◌, ◌++◌, Option, Some, None, refl, sym, ap, append_assoc}
use Rattle.std.specs.Option.{option_map}

-- these, and then what is read
abbrev pub with_front : {A : Type 0} → List A → Option (List A) → Option (List A)
with_front front read = option_map (λ rest. front ++ rest) read

-- one more in front
pub front-more : {A : Type 0} (front : List A) (x : A) (read : Option (List A))
    → with_front front (option_map (λ xs. x ∷ xs) read) ≡ with_front (front ++ x ∷ []) read
front-more front x None = refl
front-more front x (Some xs) = ap (λ ys. Some ys) (sym (append_assoc front (x ∷ []) xs))
