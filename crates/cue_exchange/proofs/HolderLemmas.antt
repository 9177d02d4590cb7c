-- The table of which attempt each device is in: how it is made, and what it finds.
use Rattle.std.proofs.Common.{◌≡◌, ℕ, ◌-◌, ◌<◌, ◌≤◌, Bool, true, false, not, cond, IsTrue, List, [], ◌∷◌, length, take}
use Rattle.std.proofs.Common.{drop, map, get_or, Option, None, Some, nat_eq, nat_lt, nat_le, refl, sym, ◌∙◌, ap, arith}
use Rattle.std.proofs.Common.{take_all}
use Rattle.std.specs.List.{list_all}
use Rattle.std.specs.Option.{option_map, option_map_or}
use Rattle.std.proofs.lemmas.Bool.{ltb-true, leb-true, ne_eqb, not_from_false}
use Rattle.std.proofs.lemmas.Option.{same_Some}
use Rattle.cue_show.specs.Devices.{disjoint}
use Rattle.cue_exchange.specs.declared.attempt.Attempt.{Attempt}
use Rattle.cue_exchange.specs.Answers.{devices_of, is_one_of}
use Rattle.cue_exchange.specs.Live.{is_number, is_attempt, are_live, pairwise, goes_before, has_number, has_device}
use Rattle.cue_exchange.specs.Live.{attempt_of, attempt_of_device}
use Rattle.cue_exchange.specs.Steps.{with_change}
use Rattle.cue_exchange.specs.Holders.{holder, AreHolders}
use Rattle.cue_exchange.proofs.ListLemmas.{both, all_weaker}
use Rattle.cue_exchange.proofs.DeviceLemmas.{is_among-devices_of}
use Rattle.cue_exchange.proofs.LiveLemmas.{IsInside, seq-changed, devices_of-changed, attempts_of, order_of}
use Rattle.cue_exchange.proofs.LookUpLemmas.{find-all, find-none, find-map}

-- no attempt, and so no holder
pub holders-none : (table : List ℕ) (live : List Attempt) → length live < 1 → AreHolders table []
    → AreHolders table live
holders-none table [] h k = k
holders-none table (a ∷ live) h k = absurd (omega arith)

-- ---- a device of the first attempt, or of the rest

pub holder-first : (live : List Attempt) (a : Attempt) → 1 ≤ length live → a ≡ get_or live 0 a → (d : ℕ)
    → holder live d ≡ cond (is_one_of d a.answers) a.seq (holder (take (length live - 1) (drop 1 live)) d)
holder-first [] a h e d = absurd (omega arith)
holder-first (b ∷ bs) a h e d =
    let rest : take (length (b ∷ bs) - 1) bs ≡ bs = take_all (length (b ∷ bs) - 1) bs (omega arith) in
    rw (e, rest) (by (is_one_of d b.answers))
  where
    by : (t : Bool) → option_map_or (λ (x : Attempt). x.seq) (cond t (Some b) (attempt_of_device bs d)) 0 ≡ cond t b.seq
        (holder bs d)
    by true = refl
    by false = refl

-- ---- a change that keeps the devices

same-device : (q : ℕ) (change : Attempt → Attempt) → IsInside change → (d : ℕ) (a : Attempt)
    → has_device d (with_change q change a) ≡ has_device d a
same-device q change inside d a =
    sym (is_among-devices_of d (with_change q change a).answers)
    ∙ (rw (devices_of-changed q change inside a) (is_among-devices_of d a.answers))

pub holder-changed : (q : ℕ) (change : Attempt → Attempt) → IsInside change → (live : List Attempt) (d : ℕ)
    → holder (map (with_change q change) live) d ≡ holder live d
holder-changed q change inside live d =
    ap (λ (o : Option Attempt). option_map_or (λ a. a.seq) o 0)
    (find-map (has_device d) (with_change q change) (same-device q change inside d) live)
    ∙ by (attempt_of_device live d)
  where
    by : (o : Option Attempt) → option_map_or (λ (a : Attempt). a.seq) (option_map (with_change q change) o) 0
        ≡ option_map_or (λ (a : Attempt). a.seq) o 0
    by None = refl
    by (Some a) = seq-changed q change inside a

pub holders-changed : (table : List ℕ) (q : ℕ) (change : Attempt → Attempt) → IsInside change → (live : List Attempt)
    → AreHolders table live → AreHolders table (map (with_change q change) live)
holders-changed table q change inside live h = λ d below. h d below ∙ sym (holder-changed q change inside live d)

-- ---- what the table finds

-- the attempt that the device is in is the one with its number
one-holder : (live : List Attempt) (d : ℕ) (a : Attempt) → IsTrue (pairwise goes_before live)
    → attempt_of_device live d ≡ Some a → attempt_of live a.seq ≡ Some a
one-holder [] d a order h = absurd cc
one-holder (b ∷ bs) d a order h =
    let s : IsTrue (list_all (goes_before b) bs) × IsTrue (pairwise goes_before bs) =
    both (list_all (goes_before b) bs) (pairwise goes_before bs) order in
    by (has_device d b) s.0 (one-holder bs d a s.1) h
  where
    itself : (n : ℕ) → nat_eq n n ≡ true
    itself n = Prim.grind arith

    by : (t : Bool) → IsTrue (list_all (goes_before b) bs)
        → (attempt_of_device bs d ≡ Some a → attempt_of bs a.seq ≡ Some a)
        → cond t (Some b) (attempt_of_device bs d) ≡ Some a
        → cond (nat_eq b.seq a.seq) (Some b) (attempt_of bs a.seq) ≡ Some a
    by true before rest m = let same : b ≡ a = same_Some b a m in rw (same, itself a.seq) refl
    by false before rest m =
        let first : IsTrue (goes_before b a) = find-all (goes_before b) (has_device d) bs a before m in
        let lt : b.seq < a.seq =
        ltb-true b.seq a.seq (both (nat_lt b.seq a.seq) (disjoint (devices_of b.answers) (devices_of a.answers))
        first).0 in
        rw (ne_eqb b.seq a.seq (λ e. omega arith)) (rest m)

numbered : (a : Attempt) → IsTrue (is_attempt a) → 1 ≤ a.seq
numbered a k = leb-true 1 a.seq (both (nat_le 1 a.seq) _ (both (is_number a.seq) _ (both _ _ k).0).0).0

-- no attempt has the number 0
none-numbered : (live : List Attempt) → IsTrue (are_live live) → attempt_of live 0 ≡ None
none-numbered live h =
    find-none (has_number 0) live
    (all_weaker is_attempt (λ a. not (has_number 0 a))
    (λ a k. let m : 1 ≤ a.seq = numbered a k in not_from_false (nat_eq a.seq 0) (ne_eqb a.seq 0 (λ e. omega arith)))
    live (attempts_of live h))

-- the attempt with the holder's number is the one that the device is in
pub held-by : (live : List Attempt) (d : ℕ) → IsTrue (are_live live)
    → attempt_of live (holder live d) ≡ attempt_of_device live d
held-by live d h = by (attempt_of_device live d) refl
  where
    by : (o : Option Attempt) → attempt_of_device live d ≡ o
        → attempt_of live (option_map_or (λ (a : Attempt). a.seq) o 0) ≡ o
    by None f = none-numbered live h
    by (Some a) f = one-holder live d a (order_of live h) f
