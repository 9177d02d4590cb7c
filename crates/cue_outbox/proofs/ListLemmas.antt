-- What holds of each element of a list, and of every two.
use Rattle.std.proofs.Common.{◌≡◌, Bool, true, false, ◌||◌, List, [], ◌∷◌, ◌++◌, map, filter, cond, IsTrue, Option}
use Rattle.std.proofs.Common.{None, Some, refl, ap, arith}
use Rattle.std.specs.Prelude.{IfSome}
use Rattle.std.specs.List.{AllByRecursion, AllPairs, list_all, list_any, filter_map, flat_map, cons_option}
use Rattle.std.proofs.lemmas.Bool.{and_parts}
use Rattle.std.proofs.lemmas.List.Elements.{All-from_recursion}
use Rattle.std.proofs.lemmas.List.Kept.{AllPairs-cons}

-- every two of the list, the first of them first
abbrev pub Pairs : {A : Type 0} → (A → A → Type 0) → List A → Type 0
Pairs R [] = Unit {0}
Pairs R (x ∷ xs) = AllByRecursion (R x) xs × Pairs R xs

pub pairs_all : {A : Type 0} (R : A → A → Type 0) (xs : List A) → Pairs R xs → AllPairs R xs
pairs_all R [] h = λ i j d before within. absurd (omega arith)
pairs_all R (x ∷ xs) h = AllPairs-cons R x xs (All-from_recursion (R x) xs h.0) (pairs_all R xs h.1)

pub each_append : {A : Type 0} (P : A → Type 0) (xs ys : List A) → AllByRecursion P xs → AllByRecursion P ys
    → AllByRecursion P (xs ++ ys)
each_append P [] ys h k = k
each_append P (x ∷ xs) ys h k = (h.0, each_append P xs ys h.1 k)

pub pairs_append : {A : Type 0} (R : A → A → Type 0) (xs ys : List A) → Pairs R xs → Pairs R ys
    → AllByRecursion (λ x. AllByRecursion (R x) ys) xs → Pairs R (xs ++ ys)
pairs_append R [] ys h k across = k
pairs_append R (x ∷ xs) ys h k across = (each_append (R x) xs ys h.0 across.0, pairs_append R xs ys h.1 k across.1)

pub each_weaker : {A : Type 0} (P Q : A → Type 0) → ((x : A) → P x → Q x) → (xs : List A) → AllByRecursion P xs
    → AllByRecursion Q xs
each_weaker P Q h [] k = tt
each_weaker P Q h (x ∷ xs) k = (h x k.0, each_weaker P Q h xs k.1)

pub each_passes : {A : Type 0} (p : A → Bool) (xs : List A) → IsTrue (list_all p xs)
    → AllByRecursion (λ x. IsTrue (p x)) xs
each_passes p [] h = tt
each_passes p (x ∷ xs) h = let k = and_parts (p x) (list_all p xs) h in (k.0, each_passes p xs k.1)

pub each_fails : {A : Type 0} (p : A → Bool) (xs : List A) → list_any p xs ≡ false
    → AllByRecursion (λ x. p x ≡ false) xs
each_fails p [] h = tt
each_fails p (x ∷ xs) h = by (p x) refl h (each_fails p xs)
  where
    by : (b : Bool) → p x ≡ b → (b || list_any p xs) ≡ false
        → (list_any p xs ≡ false → AllByRecursion (λ y. p y ≡ false) xs)
        → (p x ≡ false) × AllByRecursion (λ y. p y ≡ false) xs
    by true e k f = absurd cc
    by false e k f = (e, f k)

pub each_mapped : {A B : Type 0} (P : B → Type 0) (f : A → B) (xs : List A) → AllByRecursion P (map f xs)
    → AllByRecursion (λ x. P (f x)) xs
each_mapped P f [] h = tt
each_mapped P f (x ∷ xs) h = (h.0, each_mapped P f xs h.1)

pub each_map : {A B : Type 0} (P : B → Type 0) (f : A → B) (xs : List A) → AllByRecursion (λ x. P (f x)) xs
    → AllByRecursion P (map f xs)
each_map P f [] h = tt
each_map P f (x ∷ xs) h = (h.0, each_map P f xs h.1)

pub each_found : {A B : Type 0} (Q : A → Type 0) (P : B → Type 0) (f : A → Option B) → ((x : A) → Q x → IfSome (f x) P)
    → (xs : List A) → AllByRecursion Q xs → AllByRecursion P (filter_map f xs)
each_found Q P f h [] k = tt
each_found {B = B} Q P f h (x ∷ xs) k = onto (f x) (h x k.0) (each_found Q P f h xs k.1)
  where
    onto : (o : Option B) → IfSome o P → AllByRecursion P (filter_map f xs)
        → AllByRecursion P (cons_option o (filter_map f xs))
    onto None here rest = rest
    onto (Some y) here rest = (here, rest)

pub each_flat : {A B : Type 0} (Q : A → Type 0) (P : B → Type 0) (f : A → List B)
    → ((x : A) → Q x → AllByRecursion P (f x)) → (xs : List A) → AllByRecursion Q xs → AllByRecursion P (flat_map f xs)
each_flat Q P f h [] k = tt
each_flat Q P f h (x ∷ xs) k = each_append P (f x) (flat_map f xs) (h x k.0) (each_flat Q P f h xs k.1)

pub each_filter : {A : Type 0} (P : A → Type 0) (test : A → Bool) (xs : List A) → AllByRecursion P xs
    → AllByRecursion P (filter test xs)
each_filter P test [] h = tt
each_filter P test (x ∷ xs) h = by (test x) h.0 (each_filter P test xs h.1)
  where
    by : (b : Bool) → P x → AllByRecursion P (filter test xs)
        → AllByRecursion P (cond b (x ∷ filter test xs) (filter test xs))
    by true here rest = (here, rest)
    by false here rest = rest

-- the filter of each part is the filter of all
pub filter-append : {A : Type 0} (test : A → Bool) (xs ys : List A)
    → filter test (xs ++ ys) ≡ filter test xs ++ filter test ys
filter-append test [] ys = refl
filter-append test (x ∷ xs) ys = by (test x) (filter-append test xs ys)
  where
    by : (b : Bool) → filter test (xs ++ ys) ≡ filter test xs ++ filter test ys
        → cond b (x ∷ filter test (xs ++ ys)) (filter test (xs ++ ys)) ≡ cond b (x ∷ filter test xs) (filter test xs)
        ++ filter test ys
    by true e = ap (λ zs. x ∷ zs) e
    by false e = e
