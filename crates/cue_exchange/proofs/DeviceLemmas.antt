-- The devices of an attempt: one of them, none of them twice, and none of them in another attempt.
use Rattle.std.proofs.Common.{◌≡◌, ℕ, ◌-◌, ◌≤◌, Bool, true, false, not, ◌&&◌, ◌||◌, cond, IsTrue, List, [], ◌∷◌, length}
use Rattle.std.proofs.Common.{take, drop, get_or, Some, nat_eq, refl, sym, ◌∙◌, ap, subst, arith, ⊎_elim, take_all}
use Rattle.std.specs.List.{list_all, list_any}
use Rattle.std.specs.Option.{is_none}
use Rattle.std.proofs.lemmas.Bool.{both_ways, cases_Bool, or_parts, or_from, not-true, not_from_false, ne_eqb}
use Rattle.std.proofs.lemmas.Bool.{eqb-false, eqb-true}
use Rattle.cue_show.specs.Devices.{is_among, distinct, disjoint}
use Rattle.cue_exchange.specs.declared.attempt.DeviceAnswer.{DeviceAnswer}
use Rattle.cue_exchange.specs.declared.attempt.Attempt.{Attempt}
use Rattle.cue_exchange.specs.Answers.{devices_of, is_one_of}
use Rattle.cue_exchange.specs.Live.{has_device, attempt_of_device}
use Rattle.cue_exchange.specs.Steps.{are_free}
use Rattle.cue_exchange.proofs.ListLemmas.{both, join, all_weaker}

-- to be one of the attempt is to be one of its devices
pub is_among-devices_of : (d : ℕ) (answers : List DeviceAnswer) → is_among d (devices_of answers) ≡ is_one_of d answers
is_among-devices_of d [] = refl
is_among-devices_of d (x ∷ xs) = ap (λ b. nat_eq x.device d || b) (is_among-devices_of d xs)

-- no device of the attempt is one of the other
pub disjoint-devices_of : (xs ys : List DeviceAnswer)
    → disjoint (devices_of xs) (devices_of ys) ≡ list_all (λ x. not (is_one_of x.device ys)) xs
disjoint-devices_of [] ys = refl
disjoint-devices_of (x ∷ xs) ys = rw (is_among-devices_of x.device ys, disjoint-devices_of xs ys) refl

-- no device twice: the first is not one of the rest, and no device of the rest is there twice
pub distinct-first : (items : List DeviceAnswer) (x : DeviceAnswer) → 1 ≤ length items → x ≡ get_or items 0 x
    → distinct (devices_of items) ≡ (not (is_one_of x.device (take (length items - 1) (drop 1 items))) && distinct
    (devices_of (take (length items - 1) (drop 1 items))))
distinct-first [] x h e = absurd (omega arith)
distinct-first (y ∷ ys) x h e =
    let rest : take (length (y ∷ ys) - 1) ys ≡ ys = take_all (length (y ∷ ys) - 1) ys (omega arith) in
    rw (e, rest, is_among-devices_of y.device ys) refl

-- a device that passes a test is one of the attempt
passes-is_one_of : (d : ℕ) (test : DeviceAnswer → Bool) (xs : List DeviceAnswer)
    → IsTrue (list_any (λ x. nat_eq x.device d && test x) xs) → IsTrue (is_one_of d xs)
passes-is_one_of d test [] h = h
passes-is_one_of d test (x ∷ xs) h = by (nat_eq x.device d) (test x) h (passes-is_one_of d test xs)
  where
    by : (same passes : Bool) → IsTrue ((same && passes) || list_any (λ y. nat_eq y.device d && test y) xs)
        → (IsTrue (list_any (λ y. nat_eq y.device d && test y) xs) → IsTrue (is_one_of d xs))
        → IsTrue (same || is_one_of d xs)
    by true passes k later = refl
    by false passes k later = later k

-- where the device is not one of the attempt, a test of it holds of none
none-passes : (d : ℕ) (test : DeviceAnswer → Bool) (xs : List DeviceAnswer) → is_one_of d xs ≡ false
    → IsTrue (list_all (λ x. not (nat_eq x.device d) || test x) xs)
none-passes d test [] h = refl
none-passes d test (x ∷ xs) h =
    let parts : (nat_eq x.device d ≡ false) × (is_one_of d xs ≡ false) =
    or_parts (nat_eq x.device d) (is_one_of d xs) h in
    rw parts.0 (none-passes d test xs parts.1)

-- no device is there twice, so a test of one with the number is a test of each that has it
pub only_one_device : (d : ℕ) (test : DeviceAnswer → Bool) (xs : List DeviceAnswer) → IsTrue (distinct (devices_of xs))
    → IsTrue (list_any (λ x. nat_eq x.device d && test x) xs)
    → IsTrue (list_all (λ x. not (nat_eq x.device d) || test x) xs)
only_one_device d test [] apart h = refl
only_one_device d test (x ∷ xs) apart h =
    let s : IsTrue (not (is_among x.device (devices_of xs))) × IsTrue (distinct (devices_of xs)) =
    both (not (is_among x.device (devices_of xs))) (distinct (devices_of xs)) apart in
    let absent : is_one_of x.device xs ≡ false = sym (is_among-devices_of x.device xs)
    ∙ not-true (is_among x.device (devices_of xs)) s.0 in
    by (nat_eq x.device d) refl (test x) h absent (only_one_device d test xs s.1)
  where
    one : (passes : Bool) → is_one_of d xs ≡ false → IsTrue (passes || list_any (λ y. nat_eq y.device d && test y) xs)
        → IsTrue (passes && list_all (λ y. not (nat_eq y.device d) || test y) xs)
    one true none k = none-passes d test xs none
    one false none k = absurd (both_ways (is_one_of d xs) none (passes-is_one_of d test xs k))

    by : (same : Bool) → nat_eq x.device d ≡ same → (passes : Bool)
        → IsTrue ((same && passes) || list_any (λ y. nat_eq y.device d && test y) xs) → is_one_of x.device xs ≡ false
        → (IsTrue (list_any (λ y. nat_eq y.device d && test y) xs)
        → IsTrue (list_all (λ y. not (nat_eq y.device d) || test y) xs))
        → IsTrue ((not same || passes) && list_all (λ y. not (nat_eq y.device d) || test y) xs)
    by true e passes k absent later = one passes (subst (λ n. is_one_of n xs ≡ false) (eqb-true x.device d e) absent) k
    by false e passes k absent later = later k

-- two numbers differ either way round
pub nat_eq-other : (a b : ℕ) → nat_eq a b ≡ false → nat_eq b a ≡ false
nat_eq-other a b h = ne_eqb b a (λ e. eqb-false a b h (sym e))

-- a number apart from each of the list is not among them
pub not_among : (d : ℕ) (ds : List ℕ) → IsTrue (list_all (λ e. not (nat_eq e d)) ds) → is_among d ds ≡ false
not_among d [] h = refl
not_among d (e ∷ es) h =
    let s : IsTrue (not (nat_eq e d)) × IsTrue (list_all (λ x. not (nat_eq x d)) es) =
    both (not (nat_eq e d)) (list_all (λ x. not (nat_eq x d)) es) h in
    or_from (nat_eq e d) (is_among d es) (not-true (nat_eq e d) s.0) (not_among d es s.1)

-- lists that share no number, either way round
pub disjoint-other : (ds es : List ℕ) → IsTrue (disjoint ds es) → IsTrue (disjoint es ds)
disjoint-other ds [] h = refl
disjoint-other ds (e ∷ es) h =
    let first : IsTrue (list_all (λ d. not (nat_eq d e)) ds) =
    all_weaker (λ d. not (is_among d (e ∷ es))) (λ d. not (nat_eq d e))
    (λ d k. not_from_false (nat_eq d e)
    (nat_eq-other e d (or_parts (nat_eq e d) (is_among d es) (not-true (is_among d (e ∷ es)) k)).0)) ds h
    in
    let rest : IsTrue (disjoint ds es) =
    all_weaker (λ d. not (is_among d (e ∷ es))) (λ d. not (is_among d es))
    (λ d k. not_from_false (is_among d es) (or_parts (nat_eq e d) (is_among d es) (not-true (is_among d (e ∷ es)) k)).1)
    ds h
    in
    join (not (is_among e ds)) (disjoint es ds) (not_from_false (is_among e ds) (not_among e ds first))
    (disjoint-other ds es rest)

-- a device in none of the attempts is not in the first, nor in the others
pub free_parts : (d : ℕ) (a : Attempt) (live : List Attempt) → IsTrue (is_none (attempt_of_device (a ∷ live) d))
    → (has_device d a ≡ false) × IsTrue (is_none (attempt_of_device live d))
free_parts d a live h =
    ⊎_elim
    (λ (k : has_device d a ≡ true). let g : IsTrue (is_none (cond true (Some a) (attempt_of_device live d))) =
    subst (λ b. IsTrue (is_none (cond b (Some a) (attempt_of_device live d)))) k h in (cc))
    (λ (k : has_device d a ≡ false). (
      k,
      subst (λ b. IsTrue (is_none (cond b (Some a) (attempt_of_device live d)))) k
          h,
    ))
    (cases_Bool (has_device d a))

-- devices that are in none of the attempts are disjoint from those of each
pub are_free-each : (ds : List ℕ) (live : List Attempt) → IsTrue (are_free ds live)
    → IsTrue (list_all (λ a. disjoint (devices_of a.answers) ds) live)
are_free-each ds [] h = refl
are_free-each ds (a ∷ live) h =
    let first : IsTrue (disjoint ds (devices_of a.answers)) =
    all_weaker (λ d. is_none (attempt_of_device (a ∷ live) d)) (λ d. not (is_among d (devices_of a.answers)))
    (λ d k. not_from_false (is_among d (devices_of a.answers)) (is_among-devices_of d a.answers
    ∙ (free_parts d a live k).0)) ds h
    in
    let rest : IsTrue (are_free ds live) =
    all_weaker (λ d. is_none (attempt_of_device (a ∷ live) d)) (λ d. is_none (attempt_of_device live d))
    (λ d k. (free_parts d a live k).1) ds h
    in
    join (disjoint (devices_of a.answers) ds) (list_all (λ b. disjoint (devices_of b.answers) ds) live)
    (disjoint-other ds (devices_of a.answers) first) (are_free-each ds live rest)
