-- Numbers that rise: whether one is among them, and what is among a list once it is sorted and each stands once.
use Rattle.std.proofs.Common.{◌≡◌, ℕ, suc, ◌<◌, ◌≤◌, Bool, true, false, ◌||◌, List, [], ◌∷◌, length, get_or, nat_eq, Ok}
use Rattle.std.proofs.Common.{Err, refl, sym, ◌∙◌, ap, subst, arith, ⊎_elim}
use Rattle.std.specs.Prelude.{Result, is_ok}
use Rattle.std.specs.List.{dedup, Contains}
use Rattle.std.specs.List.Sorted.{IsStrictlyIncreasing, IsBinarySearchResult, IsPermutation}
use Rattle.std.specs.Ordering.{nat_cmp}
use Rattle.std.proofs.lemmas.Bool.{cases_lt, eqb-true}
use Rattle.std.proofs.lemmas.List.Folds.{Any-from_list_any, list_any_at}
use Rattle.std.proofs.lemmas.List.Kept.{Contains-dedup_nat, Contains-from_dedup, AllPairs-from_increasing}
use Rattle.std.proofs.lemmas.List.Sorted.{searched, list_any-IsPermutation}
use Rattle.cue_core.proofs.lists.ConditionLemmas.{same_self}
use Rattle.cue_show.specs.Devices.{is_among}

-- numbers that rise do not fall
do-not-fall : (xs : List ℕ) → IsStrictlyIncreasing xs → (i j : ℕ) → i ≤ j → j < length xs
    → get_or xs i 0 ≤ get_or xs j 0
do-not-fall xs h i j le lt =
    ⊎_elim
    (λ (k : i < j). let low : get_or xs i 0 < get_or xs j 0 = AllPairs-from_increasing xs h i j 0 k lt in omega arith)
    (λ (k : j ≤ i). let same : i ≡ j = omega arith in let e : get_or xs i 0 ≡ get_or xs j 0 =
    ap (λ n. get_or xs n 0) same in omega arith)
    (cases_lt i j)

at-among : (xs : List ℕ) (i d q : ℕ) → i < length xs → get_or xs i d ≡ q → is_among q xs ≡ true
at-among xs i d q lt e = list_any_at (λ n. nat_eq n q) xs i d lt (rw e (same_self q))

none-among : (xs : List ℕ) (q : ℕ) → ((k : ℕ) → k < length xs → get_or xs k 0 ≡ q → ⊥) → is_among q xs ≡ false
none-among [] q h = refl
none-among (x ∷ xs) q h = by (nat_eq x q) refl (none-among xs q (λ k lt e. h (suc k) (omega arith) e))
  where
    by : (b : Bool) → nat_eq x q ≡ b → is_among q xs ≡ false → (b || is_among q xs) ≡ false
    by true e k = absurd (h 0 (omega arith) (eqb-true x q e))
    by false e k = k

-- a search among numbers that rise tells whether the number is one of them
pub found-among : (xs : List ℕ) (q : ℕ) (r : Result ℕ ℕ) → IsStrictlyIncreasing xs
    → IsBinarySearchResult (λ y. nat_cmp y q) xs r → is_ok r ≡ is_among q xs
found-among xs q (Ok i) h k = let s = searched xs q (Ok i) k (do-not-fall xs h) in sym (at-among xs i 0 q s.0 s.1)
found-among xs q (Err i) h k =
    let s = searched xs q (Err i) k (do-not-fall xs h) in
    sym
    (none-among xs q
    (λ j lt e.
    ⊎_elim
    (λ (m : j < i). let low : get_or xs j 0 < q = s.1 j m in omega arith)
    (λ (m : i ≤ j). let high : q < get_or xs j 0 = s.2 j m lt in omega arith)
    (cases_lt j i)))

same-tests : (a b : Bool) → (a ≡ true → b ≡ true) → (b ≡ true → a ≡ true) → a ≡ b
same-tests true b f g = sym (f refl)
same-tests false true f g = g refl
same-tests false false f g = refl

among-contains : (q : ℕ) (xs : List ℕ) → is_among q xs ≡ true → Contains xs q
among-contains q xs h =
    let a = Any-from_list_any (λ n. nat_eq n q) xs h in
    let same : a.1 ≡ q = eqb-true a.1 q a.4 in
    (a.0, a.2, let P : ℕ → Type 0 = λ z. get_or xs a.0 z ≡ z in subst P same a.3)

contains-among : (q : ℕ) (xs : List ℕ) → Contains xs q → is_among q xs ≡ true
contains-among q xs h = at-among xs h.0 q q h.1 h.2

-- the same numbers are among a list, and among it once it is sorted and each stands once
pub among-sorted : (q : ℕ) (xs ys zs : List ℕ) → IsPermutation xs ys → zs ≡ dedup nat_eq ys
    → is_among q zs ≡ is_among q xs
among-sorted q xs ys zs moved is =
    ap (is_among q) is
    ∙ same-tests (is_among q (dedup nat_eq ys)) (is_among q ys)
    (λ h. contains-among q ys (Contains-from_dedup nat_eq ys q (among-contains q (dedup nat_eq ys) h)))
    (λ h. contains-among q (dedup nat_eq ys) (Contains-dedup_nat ys q (among-contains q ys h)))
    ∙ sym (list_any-IsPermutation (λ n. nat_eq n q) xs ys moved)
