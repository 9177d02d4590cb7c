-- The attempt with a number: what each change of the live attempts makes of it.
use Rattle.std.proofs.Common.{◌≡◌, ℕ, List, [], ◌∷◌, refl, ◌∙◌, ap, Bool, true, false, not, ◌&&◌, ◌||◌, nat_eq, nat_lt}
use Rattle.std.proofs.Common.{arith, Option, None, Some}
use Rattle.std.specs.Prelude.{IsTrue, map, filter, find, if◌then◌else◌, option_and_then}
use Rattle.std.specs.List.{list_all}
use Rattle.std.specs.Option.{option_map, option_map_or}
use Rattle.cue_exchange.specs.declared.attempt.Attempt.{Attempt}
use Rattle.cue_exchange.specs.Answers.{some_waits}
use Rattle.cue_exchange.specs.Live.{attempt_of, pairwise}
use Rattle.cue_exchange.specs.Steps.{holds, with_change, without_ended, goes_on}
use Rattle.cue_core.proofs.lists.ConditionLemmas.{both, join, same_number, all_from, all_mapped}
use Rattle.std.proofs.lemmas.Bool.Decides.{nat_tests}

-- ---- finding in any list

found_mapped_at : {A : Type 0} (b c : Bool) (x y : A) (rest others : Option A) (f : A → A) → b ≡ c → y ≡ f x
    → others ≡ option_map f rest → (if b then Some y else others) ≡ option_map f (if c then Some x else rest)
found_mapped_at true true x y rest others f e g h = ap (λ z. Some z) g
found_mapped_at false false x y rest others f e g h = h
found_mapped_at true false x y rest others f e g h = cc
found_mapped_at false true x y rest others f e g h = cc

pub found_mapped : {A : Type 0} (t : A → Bool) (f : A → A) → ((a : A) → t (f a) ≡ t a) → (xs : List A)
    → find t (map f xs) ≡ option_map f (find t xs)
found_mapped t f keeps [] = refl
found_mapped t f keeps (x ∷ xs) = found_mapped_at (t (f x)) (t x) x (f x) (find t xs) (find t (map f xs)) f (keeps x)
    refl (found_mapped t f keeps xs)

-- what is left out passes the test of no search
found_kept_at : {A : Type 0} (k t : Bool) (x : A) (rest kept : Option A) (tail : List A) (test : A → Bool) → test x ≡ t
    → (k ≡ false → t ≡ false) → find test tail ≡ rest
    → find test (if k then x ∷ tail else tail) ≡ (if t then Some x else rest)
found_kept_at true t x rest kept tail test e f g = rw (e, g) refl
found_kept_at false true x rest kept tail test e f g = let h : true ≡ false = f refl in cc
found_kept_at false false x rest kept tail test e f g = g

pub found_kept : {A : Type 0} (keep t : A → Bool) → ((a : A) → keep a ≡ false → t a ≡ false) → (xs : List A)
    → find t (filter keep xs) ≡ find t xs
found_kept keep t f [] = refl
found_kept keep t f (x ∷ xs) = found_kept_at (keep x) (t x) x (find t xs) (find t xs) (filter keep xs) t refl (f x)
    (found_kept keep t f xs)

pub found_none : {A : Type 0} (t : A → Bool) (xs : List A) → IsTrue (list_all (λ x. not (t x)) xs) → find t xs ≡ None
found_none t [] h = refl
found_none t (x ∷ xs) h = at (t x) (both (not (t x)) (list_all (λ x. not (t x)) xs) h).0
    (found_none t xs (both (not (t x)) (list_all (λ x. not (t x)) xs) h).1)
  where
    at : (b : Bool) → IsTrue (not b) → find t xs ≡ None → (if b then Some x else find t xs) ≡ None
    at true p e = cc
    at false p e = e

-- what holds of each element holds of the one that is found
pub found_has : {A : Type 0} (P t : A → Bool) (xs : List A) (a : A) → IsTrue (list_all P xs) → find t xs ≡ Some a
    → IsTrue (P a)
found_has P t [] a h e = cc
found_has P t (x ∷ xs) a h e =
    at (t x) (both (P x) (list_all P xs) h).0 (found_has P t xs a (both (P x) (list_all P xs) h).1) e
  where
    at : (b : Bool) → IsTrue (P x) → (find t xs ≡ Some a → IsTrue (P a)) → (if b then Some x else find t xs) ≡ Some a
        → IsTrue (P a)
    at true p rest e = let same : x ≡ a = cc in rw (← same) p
    at false p rest e = rest e

-- the one that is found passes
pub found_passes : {A : Type 0} (t : A → Bool) (xs : List A) (a : A) → find t xs ≡ Some a → IsTrue (t a)
found_passes t [] a e = cc
found_passes t (x ∷ xs) a e = at (t x) refl (found_passes t xs a) e
  where
    at : (b : Bool) → t x ≡ b → (find t xs ≡ Some a → IsTrue (t a)) → (if b then Some x else find t xs) ≡ Some a
        → IsTrue (t a)
    at true p rest e = let same : x ≡ a = cc in rw (← same) p
    at false p rest e = rest e

-- ---- finding an attempt by its number

number_of_changed : (p : ℕ) (f : Attempt → Attempt) → ((a : Attempt) → (f a).seq ≡ a.seq) → (a : Attempt)
    → (with_change p f a).seq ≡ a.seq
number_of_changed p f keeps a = at (nat_eq a.seq p)
  where
    at : (b : Bool) → (if b then f a else a).seq ≡ a.seq
    at true = keeps a
    at false = refl

-- a change that keeps the numbers
pub attempt_of-changed : (p q : ℕ) (f : Attempt → Attempt) → ((a : Attempt) → (f a).seq ≡ a.seq) → (live : List Attempt)
    → attempt_of (map (with_change p f) live) q ≡ option_map (with_change p f) (attempt_of live q)
attempt_of-changed p q f keeps live =
    found_mapped (λ a. nat_eq a.seq q) (with_change p f) (λ a. ap (λ n. nat_eq n q) (number_of_changed p f keeps a))
    live

-- the numbers rise
abbrev pub rising : List Attempt → Bool
rising live = pairwise (λ a b. nat_lt a.seq b.seq) live

-- no attempt of the list has the number
abbrev pub lacks : ℕ → List Attempt → Bool
lacks q live = list_all (λ a. not (nat_eq a.seq q)) live

pub lacks-above : (q : ℕ) (live : List Attempt) → IsTrue (list_all (λ b. nat_lt q b.seq) live) → IsTrue (lacks q live)
lacks-above q live h = all_from (λ b. nat_lt q b.seq) (λ a. not (nat_eq a.seq q)) live (λ a k. other a.seq k) h
  where
    other : (n : ℕ) → IsTrue (nat_lt q n) → IsTrue (not (nat_eq n q))
    other n k = Prim.grind (arith, nat_tests, k)

pub lacks-below : (q : ℕ) (live : List Attempt) → IsTrue (list_all (λ b. nat_lt b.seq q) live) → IsTrue (lacks q live)
lacks-below q live h = all_from (λ b. nat_lt b.seq q) (λ a. not (nat_eq a.seq q)) live (λ a k. other a.seq k) h
  where
    other : (n : ℕ) → IsTrue (nat_lt n q) → IsTrue (not (nat_eq n q))
    other n k = Prim.grind (arith, nat_tests, k)

pub holds-lacks : (q : ℕ) (test : Attempt → Bool) (live : List Attempt) → IsTrue (lacks q live)
    → holds q test live ≡ false
holds-lacks q test [] h = refl
holds-lacks q test (a ∷ live) h = at (nat_eq a.seq q) (both (not (nat_eq a.seq q)) (lacks q live) h).0
    (holds-lacks q test live (both (not (nat_eq a.seq q)) (lacks q live) h).1)
  where
    at : (b : Bool) → IsTrue (not b) → holds q test live ≡ false → ((b && test a) || holds q test live) ≡ false
    at true p e = cc
    at false p e = e

or_false : (b c : Bool) → c ≡ false → (b || c) ≡ b
or_false true c e = refl
or_false false c e = e

pub after_same : (q n : ℕ) (live : List Attempt) → IsTrue (nat_eq n q) → IsTrue (list_all (λ b. nat_lt n b.seq) live)
    → IsTrue (lacks q live)
after_same q n live h k = let e : n ≡ q = same_number n q h in lacks-above q live (rw (← e) k)

-- as the numbers rise, a test on a number speaks of one attempt
pub holds-found : (q : ℕ) (test : Attempt → Bool) (live : List Attempt) → IsTrue (rising live)
    → holds q test live ≡ option_map_or test (attempt_of live q) false
holds-found q test [] h = refl
holds-found q test (a ∷ live) h =
    let p = both (list_all (λ b. nat_lt a.seq b.seq) live) (rising live) h in
    at (nat_eq a.seq q) (λ e. holds-lacks q test live (after_same q a.seq live e p.0)) (holds-found q test live p.1)
  where
    at : (b : Bool) → (IsTrue b → holds q test live ≡ false)
        → holds q test live ≡ option_map_or test (attempt_of live q) false
        → ((b && test a) || holds q test live) ≡ option_map_or test (if b then Some a else attempt_of live q) false
    at true f e = or_false (test a) (holds q test live) (f refl)
    at false f e = e

-- ---- the end of an attempt

-- the attempt, where a device of it is Waiting
abbrev pub if_open : Attempt → Option Attempt
if_open a = if some_waits a.answers then Some a else None

pub attempt_of-lacks : (q : ℕ) (live : List Attempt) → IsTrue (lacks q live) → attempt_of live q ≡ None
attempt_of-lacks q live h = found_none (λ a. nat_eq a.seq q) live h

pub lacks-kept : (q : ℕ) (keep : Attempt → Bool) (live : List Attempt) → IsTrue (lacks q live)
    → IsTrue (lacks q (filter keep live))
lacks-kept q keep [] h = refl
lacks-kept q keep (a ∷ live) h =
    let p = both (not (nat_eq a.seq q)) (lacks q live) h in
    at (keep a) p.0 (lacks-kept q keep live p.1)
  where
    at : (b : Bool) → IsTrue (not (nat_eq a.seq q)) → IsTrue (lacks q (filter keep live))
        → IsTrue (lacks q (if b then a ∷ filter keep live else filter keep live))
    at true n r = join (not (nat_eq a.seq q)) (lacks q (filter keep live)) n r
    at false n r = r

pub attempt_of-without_ended : (q : ℕ) (live : List Attempt) → IsTrue (rising live)
    → attempt_of (without_ended q live) q ≡ option_and_then if_open (attempt_of live q)
attempt_of-without_ended q [] h = refl
attempt_of-without_ended q (a ∷ live) h =
    let p = both (list_all (λ b. nat_lt a.seq b.seq) live) (rising live) h in
    at (nat_eq a.seq q) (some_waits a.answers) refl refl
    (λ e. attempt_of-lacks q (without_ended q live) (lacks-kept q (goes_on q) live (after_same q a.seq live e p.0)))
    (attempt_of-without_ended q live p.1)
  where
    at : (b w : Bool) → nat_eq a.seq q ≡ b → some_waits a.answers ≡ w
        → (IsTrue b → attempt_of (without_ended q live) q ≡ None)
        → attempt_of (without_ended q live) q ≡ option_and_then if_open (attempt_of live q)
        → attempt_of (if not b || w then a ∷ without_ended q live else without_ended q live) q ≡ option_and_then if_open
        (if b then Some a else attempt_of live q)
    at true true n k f e = rw (n, k) refl
    at true false n k f e = rw k (f refl)
    at false w n k f e = rw n e

pub attempt_of-without_ended_other : (p q : ℕ) (live : List Attempt) → nat_eq p q ≡ false
    → attempt_of (without_ended p live) q ≡ attempt_of live q
attempt_of-without_ended_other p q live h =
    found_kept (goes_on p) (λ a. nat_eq a.seq q) (λ a k. at a.seq (nat_eq a.seq p) (some_waits a.answers) refl k) live
  where
    at : (n : ℕ) (b w : Bool) → nat_eq n p ≡ b → (not b || w) ≡ false → nat_eq n q ≡ false
    at n true w e k = let s : n ≡ p = same_number n p e in rw s h
    at n false w e k = cc

pub rising-mapped : (f : Attempt → Attempt) → ((a : Attempt) → (f a).seq ≡ a.seq) → (live : List Attempt)
    → IsTrue (rising live) → IsTrue (rising (map f live))
rising-mapped f keeps [] h = refl
rising-mapped f keeps (a ∷ live) h =
    let p = both (list_all (λ b. nat_lt a.seq b.seq) live) (rising live) h in
    join (list_all (λ b. nat_lt (f a).seq b.seq) (map f live)) (rising (map f live))
    (rw (all_mapped (λ b. nat_lt (f a).seq b.seq) f live)
    (all_from (λ b. nat_lt a.seq b.seq) (λ b. nat_lt (f a).seq (f b).seq) live (λ b k. rw (keeps a, keeps b) k)
    p.0))
    (rising-mapped f keeps live p.1)

pub rising-changed : (q : ℕ) (f : Attempt → Attempt) → ((a : Attempt) → (f a).seq ≡ a.seq) → (live : List Attempt)
    → IsTrue (rising live) → IsTrue (rising (map (with_change q f) live))
rising-changed q f keeps live h = rising-mapped (with_change q f) (number_of_changed q f keeps) live h

-- a test that holds of the attempt with a number holds of one that is there
pub held : (test : Attempt → Bool) (o : Option Attempt) → IsTrue (option_map_or test o false)
    → (a : Attempt) × (o ≡ Some a) × IsTrue (test a)
held test None h = cc
held test (Some a) h = (a, refl, h)

-- the attempt with the number, where the test on it holds
pub found : (q : ℕ) (test : Attempt → Bool) (live : List Attempt) → IsTrue (rising live) → IsTrue (holds q test live)
    → (a : Attempt) × (attempt_of live q ≡ Some a) × IsTrue (test a)
found q test live r h = held test (attempt_of live q) (rw (← holds-found q test live r) h)

-- the changed attempt is found in its place
pub found-changed : (q : ℕ) (f : Attempt → Attempt) → ((a : Attempt) → (f a).seq ≡ a.seq)
    → (live : List Attempt) (a : Attempt) → attempt_of live q ≡ Some a
    → attempt_of (map (with_change q f) live) q ≡ Some (f a)
found-changed q f keeps live a e = attempt_of-changed q q f keeps live
    ∙ (ap (λ o. option_map (with_change q f) o) e
    ∙ ap (λ x. Some x) (at (nat_eq a.seq q) (found_passes (λ b. nat_eq b.seq q) live a e)))
  where
    at : (b : Bool) → IsTrue b → (if b then f a else a) ≡ f a
    at true p = refl
    at false p = cc

-- the attempt with another number stays
pub found-others : (p q : ℕ) (f : Attempt → Attempt) → ((a : Attempt) → (f a).seq ≡ a.seq) → (live : List Attempt)
    → nat_eq p q ≡ false → attempt_of (map (with_change p f) live) q ≡ attempt_of live q
found-others p q f keeps live n = attempt_of-changed p q f keeps live
    ∙ same (attempt_of live q) (λ a e. found_passes (λ b. nat_eq b.seq q) live a e)
  where
    at : (a : Attempt) (b : Bool) → nat_eq a.seq p ≡ b → IsTrue (nat_eq a.seq q) → (if b then f a else a) ≡ a
    at a true e k = let s : a.seq ≡ p = same_number a.seq p e in let z : nat_eq p q ≡ true = rw (← s) k in cc
    at a false e k = refl

    same : (o : Option Attempt) → ((a : Attempt) → o ≡ Some a → IsTrue (nat_eq a.seq q))
        → option_map (with_change p f) o ≡ o
    same None k = refl
    same (Some a) k = ap (λ x. Some x) (at a (nat_eq a.seq p) refl (k a refl))

-- ---- whether an attempt has ended

-- the attempt, where no device of it is still to answer
abbrev pub if_closed : Attempt → Option Attempt
if_closed a = if some_waits a.answers then None else Some a

goes_on-lacks : (q : ℕ) (live : List Attempt) → IsTrue (lacks q live) → find (λ a. not (goes_on q a)) live ≡ None
goes_on-lacks q live h =
    found_none (λ a. not (goes_on q a)) live (all_from (λ a. not (nat_eq a.seq q)) (λ a. not (not (goes_on q a))) live
    (λ a k. at (nat_eq a.seq q) (some_waits a.answers) k) h)
  where
    at : (b w : Bool) → IsTrue (not b) → IsTrue (not (not (not b || w)))
    at true w k = cc
    at false w k = refl

pub found-closed : (q : ℕ) (live : List Attempt) → IsTrue (rising live)
    → find (λ a. not (goes_on q a)) live ≡ option_and_then if_closed (attempt_of live q)
found-closed q [] h = refl
found-closed q (a ∷ live) h =
    let p = both (list_all (λ b. nat_lt a.seq b.seq) live) (rising live) h in
    at (nat_eq a.seq q) (some_waits a.answers) refl refl (λ e. goes_on-lacks q live (after_same q a.seq live e p.0))
    (found-closed q live p.1)
  where
    at : (b w : Bool) → nat_eq a.seq q ≡ b → some_waits a.answers ≡ w
        → (IsTrue b → find (λ x. not (goes_on q x)) live ≡ None)
        → find (λ x. not (goes_on q x)) live ≡ option_and_then if_closed (attempt_of live q)
        → (if not (not b || w) then Some a else find (λ x. not (goes_on q x)) live) ≡ option_and_then if_closed
        (if b then Some a else attempt_of live q)
    at true true n k f e = rw k (f refl)
    at true false n k f e = rw k refl
    at false w n k f e = e

-- what is not found is not found among fewer
pub found_none_kept : {A : Type 0} (t keep : A → Bool) (xs : List A) → find t xs ≡ None → find t (filter keep xs) ≡ None
found_none_kept t keep [] h = refl
found_none_kept t keep (x ∷ xs) h = at (t x) (keep x) refl h (found_none_kept t keep xs)
  where
    at : (b k : Bool) → t x ≡ b → (if b then Some x else find t xs) ≡ None
        → (find t xs ≡ None → find t (filter keep xs) ≡ None)
        → find t (if k then x ∷ filter keep xs else filter keep xs) ≡ None
    at true k e h f = cc
    at false true e h f = rw e (f h)
    at false false e h f = f h

-- an element that is not found does not pass
pub passes_none : {A : Type 0} (t : A → Bool) (xs : List A) → find t xs ≡ None → IsTrue (list_all (λ x. not (t x)) xs)
passes_none t [] h = refl
passes_none t (x ∷ xs) h = at (t x) h (passes_none t xs)
  where
    at : (b : Bool) → (if b then Some x else find t xs) ≡ None
        → (find t xs ≡ None → IsTrue (list_all (λ y. not (t y)) xs)) → IsTrue (not b && list_all (λ y. not (t y)) xs)
    at true e f = cc
    at false e f = f e
