-- Tests joined, and tests of each element of a list.
use Rattle.std.proofs.Common.{◌≡◌, List, [], ◌∷◌, refl, ap, Bool, true, false, not, ◌&&◌, ◌||◌}
use Rattle.std.specs.Prelude.{IsTrue, map}
use Rattle.std.specs.List.{list_all, list_any}
use Rattle.cue_exchange.specs.Live.{pairwise}
pub use Rattle.cue_show.proofs.TestLemmas.{both, join, cases, neither, same_number, same_self, number_sym}

pub all_from : {A : Type 0} (P Q : A → Bool) (xs : List A) → ((x : A) → IsTrue (P x) → IsTrue (Q x))
    → IsTrue (list_all P xs) → IsTrue (list_all Q xs)
all_from P Q [] f h = refl
all_from P Q (x ∷ xs) f h = let p = both (P x) (list_all P xs) h in
    join (Q x) (list_all Q xs) (f x p.0) (all_from P Q xs f p.1)

-- two tests of each element give a third
pub all_zip : {A : Type 0} (P Q R : A → Bool) (xs : List A) → ((x : A) → IsTrue (P x) → IsTrue (Q x) → IsTrue (R x))
    → IsTrue (list_all P xs) → IsTrue (list_all Q xs) → IsTrue (list_all R xs)
all_zip P Q R [] f h k = refl
all_zip P Q R (x ∷ xs) f h k =
    let p = both (P x) (list_all P xs) h in
    let q = both (Q x) (list_all Q xs) k in
    join (R x) (list_all R xs) (f x p.0 q.0) (all_zip P Q R xs f p.1 q.1)

pub all_mapped : {A B : Type 0} (P : B → Bool) (f : A → B) (xs : List A)
    → list_all P (map f xs) ≡ list_all (λ x. P (f x)) xs
all_mapped P f [] = refl
all_mapped P f (x ∷ xs) = ap (λ b. P (f x) && b) (all_mapped P f xs)

-- not every element passes: some does not
any_not_at : (b : Bool) (r k : Bool) → r ≡ not k → (not b || r) ≡ not (b && k)
any_not_at true r k e = e
any_not_at false r k e = refl

pub any_not : {A : Type 0} (P : A → Bool) (xs : List A) → list_any (λ x. not (P x)) xs ≡ not (list_all P xs)
any_not P [] = refl
any_not P (x ∷ xs) = any_not_at (P x) (list_any (λ x. not (P x)) xs) (list_all P xs) (any_not P xs)

-- the two tests have one outcome
abbrev pub agrees : Bool → Bool → Bool
agrees true b = b
agrees false b = not b

pub agrees-same : (b c : Bool) → b ≡ c → IsTrue (agrees b c)
agrees-same true true e = refl
agrees-same false false e = refl
agrees-same true false e = cc
agrees-same false true e = cc

pub same-agrees : (b c : Bool) → IsTrue (agrees b c) → b ≡ c
same-agrees true true e = refl
same-agrees false false e = refl
same-agrees true false e = cc
same-agrees false true e = cc

pub none_passes : {A : Type 0} (P : A → Bool) (xs : List A) → list_any P xs ≡ false
    → IsTrue (list_all (λ x. not (P x)) xs)
none_passes P [] h = refl
none_passes P (x ∷ xs) h = at (P x) h (none_passes P xs)
  where
    at : (b : Bool) → (b || list_any P xs) ≡ false → (list_any P xs ≡ false → IsTrue (list_all (λ x. not (P x)) xs))
        → IsTrue (not b && list_all (λ x. not (P x)) xs)
    at true e f = cc
    at false e f = f e

pub all_of : {A : Type 0} (P : A → Bool) (xs : List A) → ((x : A) → IsTrue (P x)) → IsTrue (list_all P xs)
all_of P [] f = refl
all_of P (x ∷ xs) f = join (P x) (list_all P xs) (f x) (all_of P xs f)

pub pairwise_from : {A : Type 0} (R Q : A → A → Bool) (xs : List A) → ((x y : A) → IsTrue (R x y) → IsTrue (Q x y))
    → IsTrue (pairwise R xs) → IsTrue (pairwise Q xs)
pairwise_from R Q [] f h = refl
pairwise_from R Q (x ∷ xs) f h =
    let p = both (list_all (R x) xs) (pairwise R xs) h in
    join (list_all (Q x) xs) (pairwise Q xs) (all_from (R x) (Q x) xs (f x) p.0) (pairwise_from R Q xs f p.1)
