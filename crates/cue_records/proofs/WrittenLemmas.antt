-- Writing the elements of a list one after the other, as a loop does.
use Rattle.std.proofs.Common.{◌≡◌, ℕ, ◌+◌, ◌<◌, Bool, List, ◌∷◌, ◌++◌, length, get_or, drop, IsTrue, sym, ap, ◌∙◌}
use Rattle.std.proofs.Common.{append_assoc}
use Rattle.std.specs.List.{flat_map, list_all}
use Rattle.std.proofs.lemmas.List.{drop_more}
use Rattle.std.proofs.lemmas.List.Concat.{flat_map-cons}
use Rattle.cue_core.proofs.lists.ConditionLemmas.{both}

-- an element more is written, and the elements that are left are one fewer
pub write_goes_on : {X : Type 0} (text : X → List ℕ) (xs : List X) (i : ℕ) (x : X) (out after total : List ℕ)
    → i < length xs → x ≡ get_or xs i x → after ≡ out ++ text x
    → out ++ flat_map text (drop i xs) ≡ total → after ++ flat_map text (drop (i + 1) xs) ≡ total
write_goes_on text xs i x out after total lt is grown so_far =
    let rest = drop (i + 1) xs in
    let parts : drop i xs ≡ x ∷ rest = drop_more xs i x lt ∙ ap (λ y. y ∷ rest) (sym is) in
    let one : out ++ flat_map text (drop i xs) ≡ after ++ flat_map text rest =
    rw (parts, grown, flat_map-cons text x rest) (simp append_assoc) in
    sym one ∙ so_far

-- what all elements that are left keep, all but the first of them keep
pub fit_goes_on : {X : Type 0} (fits : X → Bool) (xs : List X) (i : ℕ) (x : X) → i < length xs → x ≡ get_or xs i x
    → IsTrue (list_all fits (drop i xs)) → IsTrue (list_all fits (drop (i + 1) xs))
fit_goes_on fits xs i x lt is h =
    let rest = drop (i + 1) xs in
    let parts : drop i xs ≡ x ∷ rest = drop_more xs i x lt ∙ ap (λ y. y ∷ rest) (sym is) in
    (both (fits x) (list_all fits rest) (ap (list_all fits) (sym parts) ∙ h)).1
