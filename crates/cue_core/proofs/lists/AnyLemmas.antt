-- Tests of lists, and tests that are joined by or.
use Rattle.std.proofs.Common.{◌≡◌, ℕ, Bool, true, false, not, ◌||◌, List, [], ◌∷◌, ◌++◌, map, filter, cond, nat_eq}
use Rattle.std.proofs.Common.{nat_lt, refl, sym, arith, true≢false}
use Rattle.std.proofs.lemmas.Bool.Decides.{nat_tests}
use Rattle.std.specs.List.{list_all, list_any, flat_map}
use Rattle.cue_core.proofs.lists.ConditionLemmas.{both, join}
pub use Rattle.cue_show.proofs.TestLemmas.{or_left, or_right, same_number as same, same_self as itself}

-- one of two, each of which gives the claim
pub either : (a b c : Bool) → (a ≡ true → c ≡ true) → (b ≡ true → c ≡ true) → (a || b) ≡ true → c ≡ true
either true b c f g h = f refl
either false b c f g h = g h

pub gives : (b c : Bool) → (not b || c) ≡ true → b ≡ true → c ≡ true
gives true c h e = h
gives false c h e = absurd (true≢false (sym e))

pub given : (b c : Bool) → (b ≡ true → c ≡ true) → (not b || c) ≡ true
given true c f = f refl
given false c f = refl

pub or_assoc : (a b c : Bool) → ((a || b) || c) ≡ true → (a || (b || c)) ≡ true
or_assoc true b c h = refl
or_assoc false b c h = h

pub apart : (a b : ℕ) → nat_lt a b ≡ true → nat_eq b a ≡ false
apart a b h = grind (arith, nat_tests)

module _ {A : Type 0} where
  pub any-append : (p : A → Bool) (xs ys : List A) → list_any p (xs ++ ys) ≡ (list_any p xs || list_any p ys)
  any-append p [] ys = refl
  any-append p (x ∷ xs) ys = by (p x) (any-append p xs ys)
    where
      by : (b : Bool) → list_any p (xs ++ ys) ≡ (list_any p xs || list_any p ys)
          → (b || list_any p (xs ++ ys)) ≡ ((b || list_any p xs) || list_any p ys)
      by true r = refl
      by false r = r

  pub all-append : (p : A → Bool) (xs ys : List A) → list_all p xs ≡ true → list_all p ys ≡ true
      → list_all p (xs ++ ys) ≡ true
  all-append p [] ys h k = k
  all-append p (x ∷ xs) ys h k = let w = both (p x) _ h in join (p x) _ w.0 (all-append p xs ys w.1 k)

  pub any-mapped : {B : Type 0} (f : A → B) (p : B → Bool) (q : A → Bool) → ((x : A) → p (f x) ≡ true → q x ≡ true)
      → (xs : List A) → list_any p (map f xs) ≡ true → list_any q xs ≡ true
  any-mapped f p q imp [] h = h
  any-mapped f p q imp (x ∷ xs) h =
      either (p (f x)) _ _ (λ k. or_left (q x) _ (imp x k)) (λ k. or_right (q x) _ (any-mapped f p q imp xs k)) h

  pub any-kept : (p k : A → Bool) (xs : List A) → list_any p (filter k xs) ≡ true → list_any p xs ≡ true
  any-kept p k [] h = h
  any-kept p k (x ∷ xs) h = by (k x) (any-kept p k xs) h
    where
      by : (b : Bool) → (list_any p (filter k xs) ≡ true → list_any p xs ≡ true)
          → list_any p (cond b (x ∷ filter k xs) (filter k xs)) ≡ true → (p x || list_any p xs) ≡ true
      by true r m = either (p x) _ _ (λ e. or_left (p x) _ e) (λ e. or_right (p x) _ (r e)) m
      by false r m = or_right (p x) _ (r m)

  pub any-implied : (p q : A → Bool) → ((x : A) → p x ≡ true → q x ≡ true) → (xs : List A) → list_any p xs ≡ true
      → list_any q xs ≡ true
  any-implied p q imp [] h = h
  any-implied p q imp (x ∷ xs) h =
      either (p x) _ _ (λ k. or_left (q x) _ (imp x k)) (λ k. or_right (q x) _ (any-implied p q imp xs k)) h

  pub none-filtered : (p : A → Bool) (xs : List A) → list_all (λ x. not (p x)) xs ≡ true → filter p xs ≡ []
  none-filtered p [] h = refl
  none-filtered p (x ∷ xs) h = by (p x) (both (not (p x)) _ h).0 (none-filtered p xs (both (not (p x)) _ h).1)
    where
      by : (b : Bool) → not b ≡ true → filter p xs ≡ [] → cond b (x ∷ filter p xs) (filter p xs) ≡ []
      by true k r = absurd (true≢false (sym k))
      by false k r = r

pub all-flat : {A B : Type 0} (t : B → Bool) (p : A → Bool) (f : A → List B)
    → ((x : A) → p x ≡ true → list_all t (f x) ≡ true) → (xs : List A) → list_all p xs ≡ true
    → list_all t (flat_map f xs) ≡ true
all-flat t p f imp [] h = refl
all-flat t p f imp (x ∷ xs) h = let w = both (p x) _ h in
    all-append t (f x) (flat_map f xs) (imp x w.0) (all-flat t p f imp xs w.1)

pub all_implied : {A : Type 0} (p r : A → Bool) → ((x : A) → p x ≡ true → r x ≡ true) → (xs : List A)
    → list_all p xs ≡ true → list_all r xs ≡ true
all_implied p r f [] h = refl
all_implied p r f (x ∷ xs) h = let w = both (p x) (list_all p xs) h in
    join (r x) (list_all r xs) (f x w.0) (all_implied p r f xs w.1)

pub all_mapped : {A B : Type 0} (p : A → Bool) (r : B → Bool) (f : A → B) → ((x : A) → p x ≡ true → r (f x) ≡ true)
    → (xs : List A) → list_all p xs ≡ true → list_all r (map f xs) ≡ true
all_mapped p r f g [] h = refl
all_mapped p r f g (x ∷ xs) h = let w = both (p x) (list_all p xs) h in
    join (r (f x)) (list_all r (map f xs)) (g x w.0) (all_mapped p r f g xs w.1)

pub all_true : {A : Type 0} (xs : List A) → list_all (λ x. true) xs ≡ true
all_true [] = refl
all_true (x ∷ xs) = all_true xs
