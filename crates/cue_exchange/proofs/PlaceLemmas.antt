-- The place of an attempt among the others, by number.
use Rattle.std.proofs.Common.{◌≡◌, ℕ, ◌+◌, ◌<◌, ◌≤◌, Bool, true, false, not, ◌&&◌, IsTrue, List, [], ◌∷◌, length}
use Rattle.std.proofs.Common.{nat_eq, nat_lt, refl, ◌∙◌, ap, arith, ⊎_elim, suc}
use Rattle.std.specs.Option.{unwrap_or}
use Rattle.std.specs.List.{position, position_or_len, insert}
use Rattle.std.proofs.lemmas.Bool.{cases_Bool, cases_lt, lt-ltb, le-ltb, ltb-true, ltb-false, eqb-false, not-true}
use Rattle.std.proofs.lemmas.Bool.{le-leb}
use Rattle.std.specs.List.{list_all}
use Rattle.cue_exchange.specs.declared.attempt.Attempt.{Attempt}
use Rattle.cue_show.specs.Devices.{disjoint}
use Rattle.cue_exchange.specs.declared.limits.TheConstants.{MAX_LIVE}
use Rattle.cue_exchange.specs.Answers.{devices_of}
use Rattle.cue_exchange.specs.Live.{is_attempt, are_live, pairwise, goes_before}
use Rattle.cue_exchange.specs.Steps.{has_room, is_apart, can_put, with_attempt}
use Rattle.cue_exchange.proofs.ListLemmas.{both, join, all_given}
use Rattle.cue_exchange.proofs.DeviceLemmas.{disjoint-other}
use Rattle.cue_exchange.proofs.LiveLemmas.{attempts_of, order_of, are_live_from}

pub position_or_len_le : {A : Type 0} (p : A → Bool) (xs : List A) → position_or_len p xs ≤ length xs
position_or_len_le p [] = omega arith
position_or_len_le p (x ∷ xs) =
    ⊎_elim (λ (k : p x ≡ true). rw k (omega arith)) (λ (k : p x ≡ false). rw k (omega (arith, position_or_len_le p xs)))
    (cases_Bool (p x))

pub unwrap_or-position : {A : Type 0} (p : A → Bool) (xs : List A)
    → unwrap_or (position p xs) (length xs) ≡ position_or_len p xs
unwrap_or-position p xs =
    ⊎_elim
    (λ (k : position_or_len p xs < length xs). rw (lt-ltb (position_or_len p xs) (length xs) k) refl)
    (λ (k : length xs ≤ position_or_len p xs). rw (le-ltb (position_or_len p xs) (length xs) k)
    (omega (arith, position_or_len_le p xs)))
    (cases_lt (position_or_len p xs) (length xs))

-- into the tail
pub insert-tail : {A : Type 0} (b : A) (bs : List A) (n : ℕ) (a : A) → insert (b ∷ bs) (1 + n) a ≡ b ∷ insert bs n a
insert-tail b bs n a = let e : 1 + n ≡ suc n = omega arith in rw e refl

-- the attempt goes to the first place where a number is above its own
pub insert-place : (a : Attempt) (live : List Attempt)
    → insert live (position_or_len (λ b. nat_lt a.seq b.seq) live) a ≡ with_attempt a live
insert-place a [] = refl
insert-place a (b ∷ bs) =
    ⊎_elim
    (λ (k : nat_lt a.seq b.seq ≡ true). rw k refl)
    (λ (k : nat_lt a.seq b.seq ≡ false). rw k (insert-tail b bs (position_or_len (λ x. nat_lt a.seq x.seq) bs) a
    ∙ ap (λ xs. b ∷ xs) (insert-place a bs)))
    (cases_Bool (nat_lt a.seq b.seq))

-- ---- the rules stay, where one more is put

pub length-with_attempt : (a : Attempt) (live : List Attempt) → length (with_attempt a live) ≡ length live + 1
length-with_attempt a [] = refl
length-with_attempt a (b ∷ bs) =
    ⊎_elim
    (λ (k : nat_lt a.seq b.seq ≡ true). rw k (omega arith))
    (λ (k : nat_lt a.seq b.seq ≡ false). rw k (omega (arith, length-with_attempt a bs)))
    (cases_Bool (nat_lt a.seq b.seq))

pub all-with_attempt : (p : Attempt → Bool) (a : Attempt) (live : List Attempt) → IsTrue (p a)
    → IsTrue (list_all p live) → IsTrue (list_all p (with_attempt a live))
all-with_attempt p a [] here h = join (p a) true here refl
all-with_attempt p a (b ∷ bs) here h =
    let s : IsTrue (p b) × IsTrue (list_all p bs) = both (p b) (list_all p bs) h in
    ⊎_elim
    (λ (k : nat_lt a.seq b.seq ≡ true). rw k (join (p a) (list_all p (b ∷ bs)) here h))
    (λ (k : nat_lt a.seq b.seq ≡ false).
    rw k (join (p b) (list_all p (with_attempt a bs)) s.0 (all-with_attempt p a bs here s.1)))
    (cases_Bool (nat_lt a.seq b.seq))

-- an attempt apart from another goes before it or behind it, by number
pub apart_before : (a b : Attempt) → IsTrue (is_apart a b) → nat_lt a.seq b.seq ≡ true → IsTrue (goes_before a b)
apart_before a b h k =
    let s : IsTrue (not (nat_eq b.seq a.seq)) × IsTrue (disjoint (devices_of b.answers) (devices_of a.answers)) =
    both (not (nat_eq b.seq a.seq)) (disjoint (devices_of b.answers) (devices_of a.answers)) h in
    join (nat_lt a.seq b.seq) (disjoint (devices_of a.answers) (devices_of b.answers)) k
    (disjoint-other (devices_of b.answers) (devices_of a.answers) s.1)

pub apart_behind : (a b : Attempt) → IsTrue (is_apart a b) → nat_lt a.seq b.seq ≡ false → IsTrue (goes_before b a)
apart_behind a b h k =
    let s : IsTrue (not (nat_eq b.seq a.seq)) × IsTrue (disjoint (devices_of b.answers) (devices_of a.answers)) =
    both (not (nat_eq b.seq a.seq)) (disjoint (devices_of b.answers) (devices_of a.answers)) h in
    let le : b.seq ≤ a.seq = ltb-false a.seq b.seq k in
    let ne : b.seq ≡ a.seq → ⊥ = eqb-false b.seq a.seq (not-true (nat_eq b.seq a.seq) s.0) in
    join (nat_lt b.seq a.seq) (disjoint (devices_of b.answers) (devices_of a.answers))
    (lt-ltb b.seq a.seq (omega arith)) s.1

pub order-with_attempt : (a : Attempt) (live : List Attempt) → IsTrue (pairwise goes_before live)
    → IsTrue (list_all (is_apart a) live) → IsTrue (pairwise goes_before (with_attempt a live))
order-with_attempt a [] order apart = refl
order-with_attempt a (b ∷ bs) order apart =
    let s : IsTrue (list_all (goes_before b) bs) × IsTrue (pairwise goes_before bs) =
    both (list_all (goes_before b) bs) (pairwise goes_before bs) order in
    let t : IsTrue (is_apart a b) × IsTrue (list_all (is_apart a) bs) =
    both (is_apart a b) (list_all (is_apart a) bs) apart in
    ⊎_elim
    (λ (k : nat_lt a.seq b.seq ≡ true).
    let below : IsTrue (list_all (goes_before a) bs) =
    all_given (is_apart a) (goes_before b) (goes_before a)
    (λ c far behind.
    let first : IsTrue (nat_lt b.seq c.seq) =
    (both (nat_lt b.seq c.seq) (disjoint (devices_of b.answers) (devices_of c.answers)) behind).0 in
    let x : a.seq < b.seq = ltb-true a.seq b.seq k in
    let y : b.seq < c.seq = ltb-true b.seq c.seq first in
    apart_before a c far (lt-ltb a.seq c.seq (omega arith))) bs t.1 s.0
    in
    rw k (join (list_all (goes_before a) (b ∷ bs)) (pairwise goes_before (b ∷ bs))
    (join (goes_before a b) (list_all (goes_before a) bs) (apart_before a b t.0 k) below) order))
    (λ (k : nat_lt a.seq b.seq ≡ false).
    rw k
    (join (list_all (goes_before b) (with_attempt a bs)) (pairwise goes_before (with_attempt a bs))
    (all-with_attempt (goes_before b) a bs (apart_behind a b t.0 k) s.0) (order-with_attempt a bs s.1 t.1)))
    (cases_Bool (nat_lt a.seq b.seq))

-- the parts of the test
pub record CanPut (a : Attempt) (live : List Attempt) : Type 0 where
  pub room : IsTrue (has_room live)
  pub rules : IsTrue (is_attempt a)
  pub apart : IsTrue (list_all (is_apart a) live)

pub can_put_parts : (a : Attempt) (live : List Attempt) → IsTrue (can_put a live) → CanPut a live
can_put_parts a live h =
    let s : IsTrue (has_room live) × IsTrue (is_attempt a && list_all (is_apart a) live) =
    both (has_room live) (is_attempt a && list_all (is_apart a) live) h in
    let t : IsTrue (is_attempt a) × IsTrue (list_all (is_apart a) live) =
    both (is_attempt a) (list_all (is_apart a) live) s.1 in
    record { room = s.0; rules = t.0; apart = t.1 }

-- one more attempt is put among the others
pub are_live-with_attempt : (a : Attempt) (live : List Attempt) → IsTrue (are_live live) → IsTrue (can_put a live)
    → IsTrue (are_live (with_attempt a live))
are_live-with_attempt a live h can =
    let k : CanPut a live = can_put_parts a live can in
    let room : length live < MAX_LIVE = ltb-true (length live) MAX_LIVE k.room in
    are_live_from (with_attempt a live)
    (le-leb (length (with_attempt a live)) MAX_LIVE (omega (arith, length-with_attempt a live)))
    (all-with_attempt is_attempt a live k.rules (attempts_of live h))
    (order-with_attempt a live (order_of live h) k.apart)
