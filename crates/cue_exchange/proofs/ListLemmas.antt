-- Tests over lists: of each element, of every two, and after a map, a filter or a push.
use Rattle.std.proofs.Common.{◌≡◌, Bool, true, false, ◌&&◌, IsTrue, List, [], ◌∷◌, ◌++◌, map, filter, refl, ⊎_elim}
use Rattle.std.specs.List.{list_all}
use Rattle.std.proofs.lemmas.Bool.{and_parts, and_from, cases_Bool}
use Rattle.cue_exchange.specs.Live.{pairwise}
pub use Rattle.cue_show.proofs.TestLemmas.{both, join}

-- a test that is weaker at each element
pub all_weaker : {A : Type 0} (p r : A → Bool) → ((x : A) → IsTrue (p x) → IsTrue (r x)) → (xs : List A)
    → IsTrue (list_all p xs) → IsTrue (list_all r xs)
all_weaker p r h [] t = refl
all_weaker p r h (x ∷ xs) t =
    let s : IsTrue (p x) × IsTrue (list_all p xs) = both (p x) (list_all p xs) t in
    join (r x) (list_all r xs) (h x s.0) (all_weaker p r h xs s.1)

-- two tests of each element
pub all_both : {A : Type 0} (p r : A → Bool) (xs : List A) → IsTrue (list_all p xs) → IsTrue (list_all r xs)
    → IsTrue (list_all (λ x. p x && r x) xs)
all_both p r [] t u = refl
all_both p r (x ∷ xs) t u =
    let s : IsTrue (p x) × IsTrue (list_all p xs) = both (p x) (list_all p xs) t in
    let v : IsTrue (r x) × IsTrue (list_all r xs) = both (r x) (list_all r xs) u in
    join (p x && r x) (list_all (λ y. p y && r y) xs) (join (p x) (r x) s.0 v.0) (all_both p r xs s.1 v.1)

-- a test of each element, where another holds of each
pub all_given : {A : Type 0} (p r : A → Bool) → (s : A → Bool) → ((x : A) → IsTrue (p x) → IsTrue (r x) → IsTrue (s x))
    → (xs : List A) → IsTrue (list_all p xs) → IsTrue (list_all r xs) → IsTrue (list_all s xs)
all_given p r s h xs t u =
    all_weaker (λ x. p x && r x) s (λ x k. let parts : IsTrue (p x) × IsTrue (r x) = both (p x) (r x) k in h x parts.0
    parts.1) xs (all_both p r xs t u)

-- a test of each element of a mapped list
pub all_map : {A B : Type 0} (p : B → Bool) (f : A → B) (xs : List A) → IsTrue (list_all (λ x. p (f x)) xs)
    → IsTrue (list_all p (map f xs))
all_map p f [] t = refl
all_map p f (x ∷ xs) t =
    let s : IsTrue (p (f x)) × IsTrue (list_all (λ y. p (f y)) xs) = both (p (f x)) (list_all (λ y. p (f y)) xs) t in
    join (p (f x)) (list_all p (map f xs)) s.0 (all_map p f xs s.1)

-- a test of each element that a filter keeps
pub all_filter : {A : Type 0} (p keep : A → Bool) (xs : List A) → IsTrue (list_all p xs)
    → IsTrue (list_all p (filter keep xs))
all_filter p keep [] t = refl
all_filter p keep (x ∷ xs) t =
    let s : IsTrue (p x) × IsTrue (list_all p xs) = both (p x) (list_all p xs) t in
    ⊎_elim
    (λ (k : keep x ≡ true). rw k (join (p x) (list_all p (filter keep xs)) s.0 (all_filter p keep xs s.1)))
    (λ (k : keep x ≡ false). rw k (all_filter p keep xs s.1))
    (cases_Bool (keep x))

-- the filter's own test, of each element that it keeps
pub all_kept : {A : Type 0} (keep : A → Bool) (xs : List A) → IsTrue (list_all keep (filter keep xs))
all_kept keep [] = refl
all_kept keep (x ∷ xs) =
    ⊎_elim
    (λ (k : keep x ≡ true). rw k (join (keep x) (list_all keep (filter keep xs)) k (all_kept keep xs)))
    (λ (k : keep x ≡ false). rw k (all_kept keep xs))
    (cases_Bool (keep x))

-- every two, after a map
pub pairwise_map : {A : Type 0} (R : A → A → Bool) (f : A → A) → ((x y : A) → IsTrue (R x y) → IsTrue (R (f x) (f y)))
    → (xs : List A) → IsTrue (pairwise R xs) → IsTrue (pairwise R (map f xs))
pairwise_map R f h [] t = refl
pairwise_map R f h (x ∷ xs) t =
    let s : IsTrue (list_all (R x) xs) × IsTrue (pairwise R xs) = both (list_all (R x) xs) (pairwise R xs) t in
    join (list_all (R (f x)) (map f xs)) (pairwise R (map f xs))
    (all_map (R (f x)) f xs (all_weaker (R x) (λ y. R (f x) (f y)) (λ y k. h x y k) xs s.0))
    (pairwise_map R f h xs s.1)

-- every two, after a filter
pub pairwise_filter : {A : Type 0} (R : A → A → Bool) (keep : A → Bool) (xs : List A) → IsTrue (pairwise R xs)
    → IsTrue (pairwise R (filter keep xs))
pairwise_filter R keep [] t = refl
pairwise_filter R keep (x ∷ xs) t =
    let s : IsTrue (list_all (R x) xs) × IsTrue (pairwise R xs) = both (list_all (R x) xs) (pairwise R xs) t in
    ⊎_elim
    (λ (k : keep x ≡ true). rw k (join (list_all (R x) (filter keep xs)) (pairwise R (filter keep xs))
    (all_filter (R x) keep xs s.0) (pairwise_filter R keep xs s.1)))
    (λ (k : keep x ≡ false). rw k (pairwise_filter R keep xs s.1))
    (cases_Bool (keep x))

-- a test of each element, after a push
pub all_push : {A : Type 0} (p : A → Bool) (xs : List A) (y : A) → IsTrue (list_all p xs) → IsTrue (p y)
    → IsTrue (list_all p (xs ++ y ∷ []))
all_push p [] y t u = join (p y) true u refl
all_push p (x ∷ xs) y t u =
    let s : IsTrue (p x) × IsTrue (list_all p xs) = both (p x) (list_all p xs) t in
    join (p x) (list_all p (xs ++ y ∷ [])) s.0 (all_push p xs y s.1 u)

-- every two, after a push
pub pairwise_push : {A : Type 0} (R : A → A → Bool) (xs : List A) (y : A) → IsTrue (pairwise R xs)
    → IsTrue (list_all (λ x. R x y) xs) → IsTrue (pairwise R (xs ++ y ∷ []))
pairwise_push R [] y t u = refl
pairwise_push R (x ∷ xs) y t u =
    let s : IsTrue (list_all (R x) xs) × IsTrue (pairwise R xs) = both (list_all (R x) xs) (pairwise R xs) t in
    let v : IsTrue (R x y) × IsTrue (list_all (λ z. R z y) xs) = both (R x y) (list_all (λ z. R z y) xs) u in
    join (list_all (R x) (xs ++ y ∷ [])) (pairwise R (xs ++ y ∷ [])) (all_push (R x) xs y s.0 v.0)
    (pairwise_push R xs y s.1 v.1)

-- a test of each element, of the front and of the back
pub all_front : {A : Type 0} (p : A → Bool) (xs ys : List A) → IsTrue (list_all p (xs ++ ys)) → IsTrue (list_all p xs)
all_front p [] ys t = refl
all_front p (x ∷ xs) ys t =
    let s : IsTrue (p x) × IsTrue (list_all p (xs ++ ys)) = both (p x) (list_all p (xs ++ ys)) t in
    join (p x) (list_all p xs) s.0 (all_front p xs ys s.1)

pub all_back : {A : Type 0} (p : A → Bool) (xs ys : List A) → IsTrue (list_all p (xs ++ ys)) → IsTrue (list_all p ys)
all_back p [] ys t = t
all_back p (x ∷ xs) ys t = all_back p xs ys (both (p x) (list_all p (xs ++ ys)) t).1

-- every two of the front
pub pairwise_front : {A : Type 0} (R : A → A → Bool) (xs ys : List A) → IsTrue (pairwise R (xs ++ ys))
    → IsTrue (pairwise R xs)
pairwise_front R [] ys t = refl
pairwise_front R (x ∷ xs) ys t =
    let s : IsTrue (list_all (R x) (xs ++ ys)) × IsTrue (pairwise R (xs ++ ys)) =
    both (list_all (R x) (xs ++ ys)) (pairwise R (xs ++ ys)) t in
    join (list_all (R x) xs) (pairwise R xs) (all_front (R x) xs ys s.0) (pairwise_front R xs ys s.1)

-- each of the front stands before the next one
pub before_next : {A : Type 0} (R : A → A → Bool) (xs ys : List A) (y : A) → IsTrue (pairwise R (xs ++ y ∷ ys))
    → IsTrue (list_all (λ x. R x y) xs)
before_next R [] ys y t = refl
before_next R (x ∷ xs) ys y t =
    let s : IsTrue (list_all (R x) (xs ++ y ∷ ys)) × IsTrue (pairwise R (xs ++ y ∷ ys)) =
    both (list_all (R x) (xs ++ y ∷ ys)) (pairwise R (xs ++ y ∷ ys)) t in
    join (R x y) (list_all (λ z. R z y) xs)
    (both (R x y) (list_all (R x) ys) (all_back (R x) xs (y ∷ ys) s.0)).0 (before_next R xs ys y s.1)
