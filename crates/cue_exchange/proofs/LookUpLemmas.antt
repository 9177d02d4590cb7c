-- How an attempt is found by its number, and a device's answer by its device, before and after each step.
use Rattle.std.proofs.Common.{◌≡◌, ℕ, ◌<◌, Bool, true, false, not, ◌||◌, cond, IsTrue, List, [], ◌∷◌, ◌++◌}
use Rattle.std.proofs.Common.{map, filter, find, None, Some, nat_eq, nat_lt, refl, sym, ◌∙◌, ap, subst, arith}
use Rattle.std.proofs.Common.{⊎_elim}
use Rattle.std.specs.List.{list_all}
use Rattle.std.specs.Option.{option_map, option_map_or}
use Rattle.std.proofs.lemmas.Bool.{cases_Bool, or_left, or_right, or_from, or_parts, not-true, not_from_true}
use Rattle.std.proofs.lemmas.Bool.{not_from_false, eqb-true, eq-eqb, ne_eqb, ltb-true}
use Rattle.std.proofs.lemmas.Option.{same_Some}
use Rattle.cue_show.specs.Devices.{is_among, distinct}
use Rattle.cue_exchange.specs.declared.attempt.Answer.{Answer}
use Rattle.cue_exchange.specs.declared.attempt.Stage.{Stage}
use Rattle.cue_exchange.specs.declared.attempt.DeviceAnswer.{DeviceAnswer}
use Rattle.cue_exchange.specs.declared.attempt.Attempt.{Attempt}
use Rattle.cue_exchange.specs.Answers.{entering, answers_on_entry, with_answer, answer_of, answer_passes, devices_of}
use Rattle.cue_exchange.specs.Answers.{is_one_of}
use Rattle.cue_exchange.specs.Answers.{some_waits}
use Rattle.cue_exchange.specs.Live.{pairwise, goes_before, has_number, has_device, attempt_of}
use Rattle.cue_exchange.specs.Live.{attempt_of_device}
use Rattle.cue_exchange.specs.Steps.{holds, are_below, with_change, goes_on, without_ended, outcome_of}
use Rattle.cue_exchange.specs.Steps.{ended_in}
use Rattle.cue_exchange.proofs.ListLemmas.{both, join, all_weaker, all_filter}
use Rattle.cue_exchange.proofs.DeviceLemmas.{is_among-devices_of}
use Rattle.cue_exchange.proofs.LiveLemmas.{IsInside, seq-changed, devices_of-changed, other_number, holds-none}

-- ---- what is found

-- what a search finds passes its test
pub find-passes : {A : Type 0} (test : A → Bool) (xs : List A) (x : A) → find test xs ≡ Some x → test x ≡ true
find-passes test [] x h = (cc)
find-passes test (y ∷ ys) x h =
    ⊎_elim
    (λ (k : test y ≡ true). let e : Some y ≡ Some x = subst (λ b. cond b (Some y) (find test ys) ≡ Some x) k h in
    subst (λ z. test z ≡ true) (same_Some y x e) k)
    (λ (k : test y ≡ false). find-passes test ys x (subst (λ b. cond b (Some y) (find test ys) ≡ Some x) k h))
    (cases_Bool (test y))

-- what a search finds passes each test that all pass
pub find-all : {A : Type 0} (p test : A → Bool) (xs : List A) (x : A) → IsTrue (list_all p xs) → find test xs ≡ Some x
    → IsTrue (p x)
find-all p test [] x all h = (cc)
find-all p test (y ∷ ys) x all h =
    let s : IsTrue (p y) × IsTrue (list_all p ys) = both (p y) (list_all p ys) all in
    ⊎_elim
    (λ (k : test y ≡ true). let e : Some y ≡ Some x = subst (λ b. cond b (Some y) (find test ys) ≡ Some x) k h in
    subst (λ z. IsTrue (p z)) (same_Some y x e) s.0)
    (λ (k : test y ≡ false). find-all p test ys x s.1 (subst (λ b. cond b (Some y) (find test ys) ≡ Some x) k h))
    (cases_Bool (test y))

-- where none passes, none is found
pub find-none : {A : Type 0} (test : A → Bool) (xs : List A) → IsTrue (list_all (λ x. not (test x)) xs)
    → find test xs ≡ None
find-none test [] h = refl
find-none test (x ∷ xs) h =
    let s : IsTrue (not (test x)) × IsTrue (list_all (λ y. not (test y)) xs) =
    both (not (test x)) (list_all (λ y. not (test y)) xs) h in
    rw (not-true (test x) s.0) (find-none test xs s.1)

-- a change that keeps the test changes what is found
pub find-map : {A : Type 0} (test : A → Bool) (f : A → A) → ((x : A) → test (f x) ≡ test x) → (xs : List A)
    → find test (map f xs) ≡ option_map f (find test xs)
find-map test f same [] = refl
find-map test f same (x ∷ xs) =
    ⊎_elim
    (λ (k : test x ≡ true). rw (same x, k) refl)
    (λ (k : test x ≡ false). rw (same x, k) (find-map test f same xs))
    (cases_Bool (test x))

-- a filter that keeps all that pass leaves what is found
pub find-filter : {A : Type 0} (test keep : A → Bool) → ((x : A) → test x ≡ true → keep x ≡ true) → (xs : List A)
    → find test (filter keep xs) ≡ find test xs
find-filter test keep h [] = refl
find-filter test keep h (x ∷ xs) =
    ⊎_elim
    (λ (k : test x ≡ true). rw (h x k, k) refl)
    (λ (k : test x ≡ false).
    ⊎_elim (λ (on : keep x ≡ true). rw (on, k) (find-filter test keep h xs))
    (λ (off : keep x ≡ false). rw (off, k) (find-filter test keep h xs)) (cases_Bool (keep x)))
    (cases_Bool (test x))

-- ---- one attempt has the number

-- a test of the attempt with a number is a test of the one that is found
pub holds-attempt_of : (q : ℕ) (test : Attempt → Bool) (live : List Attempt) → IsTrue (pairwise goes_before live)
    → holds q test live ≡ option_map_or test (attempt_of live q) false
holds-attempt_of q test [] order = refl
holds-attempt_of q test (a ∷ live) order =
    let s : IsTrue (list_all (goes_before a) live) × IsTrue (pairwise goes_before live) =
    both (list_all (goes_before a) live) (pairwise goes_before live) order in
    ⊎_elim
    (λ (here : has_number q a ≡ true).
    let none : holds q test live ≡ false =
    holds-none q test live (all_weaker (goes_before a) (λ b. not (has_number q b)) (λ b k. other_number q a b here k)
    live s.0)
    in
    rw (here, none) (elim (test a) as (λ b. (b || false) ≡ b) [ true ↦ refl | false ↦ refl ]))
    (λ (off : has_number q a ≡ false). rw off (holds-attempt_of q test live s.1))
    (cases_Bool (has_number q a))

-- behind an attempt with the number there is no other
pub attempt_of-behind : (q : ℕ) (a : Attempt) (live : List Attempt) → IsTrue (pairwise goes_before (a ∷ live))
    → has_number q a ≡ true → IsTrue (list_all (λ b. not (has_number q b)) live)
attempt_of-behind q a live order here =
    all_weaker (goes_before a) (λ b. not (has_number q b)) (λ b k. other_number q a b here k) live
    (both (list_all (goes_before a) live) (pairwise goes_before live) order).0

-- ---- after a change of the attempt with the number

-- the numbers stay
pub has_number-changed : (q p : ℕ) (change : Attempt → Attempt) → IsInside change → (a : Attempt)
    → has_number p (with_change q change a) ≡ has_number p a
has_number-changed q p change inside a = ap (λ n. nat_eq n p) (seq-changed q change inside a)

-- what is found is the change of what was found
pub attempt_of-changed : (q p : ℕ) (change : Attempt → Attempt) → IsInside change → (live : List Attempt)
    → attempt_of (map (with_change q change) live) p ≡ option_map (with_change q change) (attempt_of live p)
attempt_of-changed q p change inside live =
    find-map (has_number p) (with_change q change) (has_number-changed q p change inside) live

-- the attempt with the number is changed
pub attempt_of-changed_same : (q : ℕ) (change : Attempt → Attempt) → IsInside change
    → (live : List Attempt) (a : Attempt) → attempt_of live q ≡ Some a
    → attempt_of (map (with_change q change) live) q ≡ Some (change a)
attempt_of-changed_same q change inside live a h =
    let here : has_number q a ≡ true = find-passes (has_number q) live a h in
    attempt_of-changed q q change inside live ∙ ap (option_map (with_change q change)) h
    ∙ ap (λ b. Some (cond b (change a) a)) here

-- an attempt with another number stays as it is
pub attempt_of-changed_other : (q p : ℕ) (change : Attempt → Attempt) → IsInside change → (live : List Attempt)
    → (p ≡ q → ⊥) → attempt_of (map (with_change q change) live) p ≡ attempt_of live p
attempt_of-changed_other q p change inside [] ne = refl
attempt_of-changed_other q p change inside (a ∷ live) ne =
    ⊎_elim
    (λ (here : has_number p a ≡ true).
    let off : has_number q a ≡ false = ne_eqb a.seq q (λ e. ne (sym (eqb-true a.seq p here) ∙ e)) in
    rw (has_number-changed q p change inside a, here, off) refl)
    (λ (away : has_number p a ≡ false). rw (has_number-changed q p change inside a, away)
    (attempt_of-changed_other q p change inside live ne))
    (cases_Bool (has_number p a))

-- the device of an attempt stays, and so does its cue
pub attempt_of_device-changed : (q d : ℕ) (change : Attempt → Attempt) → IsInside change → (live : List Attempt)
    → attempt_of_device (map (with_change q change) live) d ≡ option_map (with_change q change)
    (attempt_of_device live d)
attempt_of_device-changed q d change inside live =
    find-map (has_device d) (with_change q change)
    (λ a. sym (is_among-devices_of d (with_change q change a).answers)
    ∙ (ap (is_among d) (devices_of-changed q change inside a) ∙ is_among-devices_of d a.answers)) live

-- ---- after a start

pub attempt_of-push_same : (a : Attempt) (live : List Attempt) → IsTrue (are_below a.seq live)
    → attempt_of (live ++ a ∷ []) a.seq ≡ Some a
attempt_of-push_same a [] below = rw (eq-eqb a.seq a.seq refl) refl
attempt_of-push_same a (b ∷ bs) below =
    let s : IsTrue (nat_lt b.seq a.seq) × IsTrue (are_below a.seq bs) =
    both (nat_lt b.seq a.seq) (are_below a.seq bs) below in
    let lt : b.seq < a.seq = ltb-true b.seq a.seq s.0 in
    rw (ne_eqb b.seq a.seq (λ e. omega arith)) (attempt_of-push_same a bs s.1)

pub attempt_of-push_other : (p : ℕ) (a : Attempt) (live : List Attempt) → (p ≡ a.seq → ⊥)
    → attempt_of (live ++ a ∷ []) p ≡ attempt_of live p
attempt_of-push_other p a [] ne = rw (ne_eqb a.seq p (λ e. ne (sym e))) refl
attempt_of-push_other p a (b ∷ bs) ne =
    ⊎_elim
    (λ (here : has_number p b ≡ true). rw here refl)
    (λ (away : has_number p b ≡ false). rw away (attempt_of-push_other p a bs ne))
    (cases_Bool (has_number p b))

-- ---- after the end of an attempt

pub attempt_of-ended_other : (q p : ℕ) (live : List Attempt) → (p ≡ q → ⊥)
    → attempt_of (without_ended q live) p ≡ attempt_of live p
attempt_of-ended_other q p live ne =
    find-filter (has_number p) (goes_on q)
    (λ a here. or_left (not (has_number q a)) (some_waits a.answers)
    (not_from_false (has_number q a) (ne_eqb a.seq q (λ e. ne (sym (eqb-true a.seq p here) ∙ e))))) live

-- the attempt goes on, where a device of it is still to answer
pub attempt_of-goes_on : (q : ℕ) (live : List Attempt) (a : Attempt) → attempt_of live q ≡ Some a
    → some_waits a.answers ≡ true → attempt_of (without_ended q live) q ≡ Some a
attempt_of-goes_on q [] a h waits = (cc)
attempt_of-goes_on q (b ∷ bs) a h waits =
    ⊎_elim
    (λ (here : has_number q b ≡ true).
    let same : b ≡ a = same_Some b a (subst (λ x. cond x (Some b) (attempt_of bs q) ≡ Some a) here h) in
    let on : goes_on q b ≡ true =
    or_right (not (has_number q b)) (some_waits b.answers)
    (subst (λ x. some_waits x.answers ≡ true) (sym same) waits) in
    rw (on, here) (ap (λ x. Some x) same))
    (λ (away : has_number q b ≡ false).
    let on : goes_on q b ≡ true =
    or_left (not (has_number q b)) (some_waits b.answers) (not_from_false (has_number q b) away) in
    rw (on, away) (attempt_of-goes_on q bs a (subst (λ x. cond x (Some b) (attempt_of bs q) ≡ Some a) away h) waits))
    (cases_Bool (has_number q b))

-- the attempt is gone, where none is
pub attempt_of-ended : (q : ℕ) (live : List Attempt) (a : Attempt) → IsTrue (pairwise goes_before live)
    → attempt_of live q ≡ Some a → some_waits a.answers ≡ false → attempt_of (without_ended q live) q ≡ None
attempt_of-ended q [] a order h none = (cc)
attempt_of-ended q (b ∷ bs) a order h none =
    let s : IsTrue (list_all (goes_before b) bs) × IsTrue (pairwise goes_before bs) =
    both (list_all (goes_before b) bs) (pairwise goes_before bs) order in
    ⊎_elim
    (λ (here : has_number q b ≡ true).
    let same : b ≡ a = same_Some b a (subst (λ x. cond x (Some b) (attempt_of bs q) ≡ Some a) here h) in
    let off : goes_on q b ≡ false =
    or_from (not (has_number q b)) (some_waits b.answers) (not_from_true (has_number q b) here)
    (subst (λ x. some_waits x.answers ≡ false) (sym same) none) in
    let behind : IsTrue (list_all (λ c. not (has_number q c)) bs) = attempt_of-behind q b bs order here in
    rw off (find-none (has_number q) (filter (goes_on q) bs)
    (all_filter (λ c. not (has_number q c)) (goes_on q) bs behind)))
    (λ (away : has_number q b ≡ false).
    let on : goes_on q b ≡ true =
    or_left (not (has_number q b)) (some_waits b.answers) (not_from_false (has_number q b) away) in
    rw (on, away) (attempt_of-ended q bs a s.1 (subst (λ x. cond x (Some b) (attempt_of bs q) ≡ Some a) away h) none))
    (cases_Bool (has_number q b))

-- each attempt goes on, where a device of q is still to answer
pub all_go_on : (q : ℕ) (live : List Attempt) (a : Attempt) → IsTrue (pairwise goes_before live)
    → attempt_of live q ≡ Some a → some_waits a.answers ≡ true → IsTrue (list_all (λ b. not (not (goes_on q b))) live)
all_go_on q [] a order h waits = refl
all_go_on q (b ∷ bs) a order h waits =
    let s : IsTrue (list_all (goes_before b) bs) × IsTrue (pairwise goes_before bs) =
    both (list_all (goes_before b) bs) (pairwise goes_before bs) order in
    ⊎_elim
    (λ (here : has_number q b ≡ true).
    let same : b ≡ a = same_Some b a (subst (λ x. cond x (Some b) (attempt_of bs q) ≡ Some a) here h) in
    let on : goes_on q b ≡ true =
    or_right (not (has_number q b)) (some_waits b.answers)
    (subst (λ x. some_waits x.answers ≡ true) (sym same) waits) in
    join (not (not (goes_on q b))) (list_all (λ c. not (not (goes_on q c))) bs) (rw on refl)
    (all_weaker (λ c. not (has_number q c)) (λ c. not (not (goes_on q c)))
    (λ c k. let g : goes_on q c ≡ true = or_left (not (has_number q c)) (some_waits c.answers) k in rw g refl) bs
    (attempt_of-behind q b bs order here)))
    (λ (away : has_number q b ≡ false).
    let on : goes_on q b ≡ true =
    or_left (not (has_number q b)) (some_waits b.answers) (not_from_false (has_number q b) away) in
    join (not (not (goes_on q b))) (list_all (λ c. not (not (goes_on q c))) bs) (rw on refl)
    (all_go_on q bs a s.1 (subst (λ x. cond x (Some b) (attempt_of bs q) ≡ Some a) away h) waits))
    (cases_Bool (has_number q b))

-- no attempt ends, where a device of it is still to answer
pub ended_in-goes_on : (q : ℕ) (live : List Attempt) (a : Attempt) → IsTrue (pairwise goes_before live)
    → attempt_of live q ≡ Some a → some_waits a.answers ≡ true → ended_in q live ≡ None
ended_in-goes_on q live a order h waits =
    ap (option_map outcome_of) (find-none (λ b. not (goes_on q b)) live (all_go_on q live a order h waits))

-- the attempt ends with its outcome, where none is
pub ended_in-ended : (q : ℕ) (live : List Attempt) (a : Attempt) → attempt_of live q ≡ Some a
    → some_waits a.answers ≡ false → ended_in q live ≡ Some (outcome_of a)
ended_in-ended q [] a h none = (cc)
ended_in-ended q (b ∷ bs) a h none =
    ⊎_elim
    (λ (here : has_number q b ≡ true).
    let same : b ≡ a = same_Some b a (subst (λ x. cond x (Some b) (attempt_of bs q) ≡ Some a) here h) in
    let off : goes_on q b ≡ false =
    or_from (not (has_number q b)) (some_waits b.answers) (not_from_true (has_number q b) here)
    (subst (λ x. some_waits x.answers ≡ false) (sym same) none) in
    rw off (ap (λ x. Some (outcome_of x)) same))
    (λ (away : has_number q b ≡ false).
    let on : goes_on q b ≡ true =
    or_left (not (has_number q b)) (some_waits b.answers) (not_from_false (has_number q b) away) in
    rw on (ended_in-ended q bs a (subst (λ x. cond x (Some b) (attempt_of bs q) ≡ Some a) away h) none))
    (cases_Bool (has_number q b))

-- ---- the answer of a device

-- no answer passes of a device that is not there
pub answer_passes-none : (test : Answer → Bool) (d : ℕ) (answers : List DeviceAnswer) → is_one_of d answers ≡ false
    → answer_passes test d answers ≡ false
answer_passes-none test d [] h = refl
answer_passes-none test d (x ∷ xs) h =
    let s : (nat_eq x.device d ≡ false) × (is_one_of d xs ≡ false) = or_parts (nat_eq x.device d) (is_one_of d xs) h in
    rw s.0 (answer_passes-none test d xs s.1)

-- the test of a device's answer holds of the answer that is found
pub answer_passes-answer_of : (test : Answer → Bool) (d : ℕ) (answers : List DeviceAnswer)
    → IsTrue (distinct (devices_of answers))
    → answer_passes test d answers ≡ option_map_or test (answer_of answers d) false
answer_passes-answer_of test d [] h = refl
answer_passes-answer_of test d (x ∷ xs) h =
    let s : IsTrue (not (is_among x.device (devices_of xs))) × IsTrue (distinct (devices_of xs)) =
    both (not (is_among x.device (devices_of xs))) (distinct (devices_of xs)) h in
    ⊎_elim
    (λ (here : nat_eq x.device d ≡ true).
    let none : is_one_of d xs ≡ false =
    subst (λ n. is_one_of n xs ≡ false) (eqb-true x.device d here) (sym (is_among-devices_of x.device xs)
    ∙ not-true (is_among x.device (devices_of xs)) s.0)
    in
    rw (here, answer_passes-none test d xs none)
    (elim (test x.answer) as (λ b. (b || false) ≡ b) [ true ↦ refl | false ↦ refl ]))
    (λ (away : nat_eq x.device d ≡ false). rw away (answer_passes-answer_of test d xs s.1))
    (cases_Bool (nat_eq x.device d))

-- the answer of the device that has answered
pub answer_of-with_answer_same : (d : ℕ) (x : Answer) (answers : List DeviceAnswer)
    → answer_of (with_answer d x answers) d ≡ option_map (λ _. x) (answer_of answers d)
answer_of-with_answer_same d x [] = refl
answer_of-with_answer_same d x (y ∷ ys) =
    ⊎_elim
    (λ (here : nat_eq y.device d ≡ true). rw here refl)
    (λ (away : nat_eq y.device d ≡ false). rw away (answer_of-with_answer_same d x ys))
    (cases_Bool (nat_eq y.device d))

-- the answers of the others stay
pub answer_of-with_answer_other : (d e : ℕ) (x : Answer) (answers : List DeviceAnswer) → (e ≡ d → ⊥)
    → answer_of (with_answer d x answers) e ≡ answer_of answers e
answer_of-with_answer_other d e x [] ne = refl
answer_of-with_answer_other d e x (y ∷ ys) ne =
    ⊎_elim
    (λ (here : nat_eq y.device e ≡ true).
    let off : nat_eq y.device d ≡ false = ne_eqb y.device d (λ k. ne (sym (eqb-true y.device e here) ∙ k)) in
    rw (here, off) refl)
    (λ (away : nat_eq y.device e ≡ false). rw away (answer_of-with_answer_other d e x ys ne))
    (cases_Bool (nat_eq y.device e))

-- the answer of a device, as its attempt enters a stage
pub answer_of-entered : (stage : Stage) (d : ℕ) (answers : List DeviceAnswer)
    → answer_of (answers_on_entry stage answers) d ≡ option_map (entering stage) (answer_of answers d)
answer_of-entered stage d [] = refl
answer_of-entered stage d (y ∷ ys) =
    ⊎_elim
    (λ (here : nat_eq y.device d ≡ true). rw here refl)
    (λ (away : nat_eq y.device d ≡ false). rw away (answer_of-entered stage d ys))
    (cases_Bool (nat_eq y.device d))
