-- What holds of an element of a list in which nothing stands twice, and of the elements before it.
use Rattle.std.proofs.Common.{◌≡◌, Bool, true, false, not, List, [], ◌∷◌, ◌++◌, None, IsTrue, refl}
use Rattle.std.specs.List.{list_all, list_any}
use Rattle.std.specs.Map.{lookup, keys_of}
use Rattle.cue_show.specs.Distinct.{are_distinct}
use Rattle.cue_show.proofs.ListLemmas.{neither}
use Rattle.cue_core.proofs.lists.ConditionLemmas.{both}

pub all_here : {A : Type 0} (p : A → Bool) (ys zs : List A) (x : A) → IsTrue (list_all p (ys ++ x ∷ zs)) → IsTrue (p x)
all_here p [] zs x h = (both (p x) (list_all p zs) h).0
all_here p (y ∷ ys) zs x h = all_here p ys zs x (both (p y) (list_all p (ys ++ x ∷ zs)) h).1

none_here : {K V : Type 0} (p : K → Bool) (ys zs : List (K × V)) (x : K × V)
    → list_any p (keys_of (ys ++ x ∷ zs)) ≡ false → p x.0 ≡ false
none_here p [] zs x h = (neither (p x.0) (list_any p (keys_of zs)) h).0
none_here p (y ∷ ys) zs x h = none_here p ys zs x (neither (p y.0) (list_any p (keys_of (ys ++ x ∷ zs))) h).1

not_false : (b : Bool) → IsTrue (not b) → b ≡ false
not_false false h = refl
not_false true h = absurd cc

-- nothing before an entry has its key
pub absent_before : {K V : Type 0} (same : K → K → Bool) (ys zs : List (K × V)) (x : K × V)
    → IsTrue (are_distinct same (keys_of (ys ++ x ∷ zs))) → lookup (same x.0) ys ≡ None
absent_before same [] zs x h = refl
absent_before same (y ∷ ys) zs x h =
    let p = both (not (list_any (λ k. same k y.0) (keys_of (ys ++ x ∷ zs))))
    (are_distinct same (keys_of (ys ++ x ∷ zs))) h in
    let other : same x.0 y.0 ≡ false =
    none_here (λ k. same k y.0) ys zs x (not_false (list_any (λ k. same k y.0) (keys_of (ys ++ x ∷ zs))) p.0) in
    rw other (absent_before same ys zs x p.1)
