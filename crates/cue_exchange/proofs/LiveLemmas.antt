-- The rules of the live attempts, taken apart and put together, and what a change of one attempt keeps of them.
use Rattle.std.proofs.Common.{◌≡◌, ℕ, ◌<◌, ◌≤◌, Bool, true, false, not, ◌&&◌, ◌||◌, IsTrue, List, [], ◌∷◌, map}
use Rattle.std.proofs.Common.{filter, length, nat_eq, nat_le, nat_lt, refl, arith, ⊎_elim}
use Rattle.std.proofs.lemmas.List.{length-map}
use Rattle.std.proofs.lemmas.List.Filters.{length-filter_both}
use Rattle.std.specs.List.{list_all}
use Rattle.std.proofs.lemmas.Bool.{and_left, or_cases, or_left, or_right, both_ways, cond_both, cases_Bool, not-true}
use Rattle.std.proofs.lemmas.Bool.{not_from_true, not_from_false, eqb-true, ltb-true, ne_eqb, leb-true, le-leb}
use Rattle.cue_show.specs.declared.part.Part.{Part}
use Rattle.cue_show.specs.Devices.{distinct, disjoint, devices_in}
use Rattle.cue_exchange.specs.declared.attempt.Answer.{Answer}
use Rattle.cue_exchange.specs.declared.attempt.Stage.{Stage}
use Rattle.cue_exchange.specs.declared.attempt.Attempt.{Attempt}
use Rattle.cue_exchange.specs.declared.limits.TheConstants.{MAX_LIVE}
use Rattle.cue_exchange.specs.Answers.{is_known_in, has_required}
use Rattle.cue_exchange.specs.Answers.{may_be_in, answers_on_entry, some_waits, devices_of}
use Rattle.cue_exchange.specs.Live.{is_number, is_time, is_open, have_sound_devices, is_sound, is_attempt, pairwise}
use Rattle.cue_exchange.specs.Live.{goes_before, are_live, has_number}
use Rattle.cue_exchange.specs.Steps.{holds, has_room, are_below, are_free, are_sound_parts, can_start}
use Rattle.cue_exchange.specs.Steps.{with_change, answers_as, moves_to}
use Rattle.cue_exchange.specs.Steps.{goes_on, without_ended}
use Rattle.cue_exchange.proofs.ListLemmas.{both, join, all_weaker, all_given, all_map, all_filter, all_kept}
use Rattle.cue_exchange.proofs.ListLemmas.{pairwise_map, pairwise_filter}
use Rattle.cue_exchange.proofs.AnswerLemmas.{is_open-some_waits, devices_of-with_answer, devices_of-entered}
use Rattle.cue_exchange.proofs.AnswerLemmas.{has_required-with_answer, has_required-entered}
use Rattle.cue_exchange.proofs.AnswerLemmas.{excuses_none}
use Rattle.cue_exchange.proofs.AnswerLemmas.{all_stand-with_answer, all_stand-entered}
use Rattle.cue_exchange.proofs.AnswerLemmas.{some_waits-entered}

-- ---- the rules of the attempts, taken apart and put together

pub room_of : (live : List Attempt) → IsTrue (are_live live) → IsTrue (nat_le (length live) MAX_LIVE)
room_of live h = (both (nat_le (length live) MAX_LIVE) (list_all is_attempt live && pairwise goes_before live) h).0

pub attempts_of : (live : List Attempt) → IsTrue (are_live live) → IsTrue (list_all is_attempt live)
attempts_of live h =
    (both (list_all is_attempt live) (pairwise goes_before live)
    ((both (nat_le (length live) MAX_LIVE) (list_all is_attempt live && pairwise goes_before live) h).1)).0

pub order_of : (live : List Attempt) → IsTrue (are_live live) → IsTrue (pairwise goes_before live)
order_of live h =
    (both (list_all is_attempt live) (pairwise goes_before live)
    ((both (nat_le (length live) MAX_LIVE) (list_all is_attempt live && pairwise goes_before live) h).1)).1

pub are_live_from : (live : List Attempt) → IsTrue (nat_le (length live) MAX_LIVE) → IsTrue (list_all is_attempt live)
    → IsTrue (pairwise goes_before live) → IsTrue (are_live live)
are_live_from live room attempts order =
    join (nat_le (length live) MAX_LIVE) (list_all is_attempt live && pairwise goes_before live) room
    (join (list_all is_attempt live) (pairwise goes_before live) attempts order)

-- ---- one attempt has the number

-- an attempt that goes behind one with the number has another
pub other_number : (q : ℕ) (a b : Attempt) → IsTrue (has_number q a) → IsTrue (goes_before a b)
    → IsTrue (not (has_number q b))
other_number q a b here before =
    let below : a.seq < b.seq =
    ltb-true a.seq b.seq (both (nat_lt a.seq b.seq) (disjoint (devices_of a.answers) (devices_of b.answers))
    before).0 in
    let same : a.seq ≡ q = eqb-true a.seq q here in
    not_from_false (nat_eq b.seq q) (ne_eqb b.seq q (λ e. omega arith))

-- no attempt has the number, so none that has it passes a test
pub holds-none : (q : ℕ) (test : Attempt → Bool) (live : List Attempt)
    → IsTrue (list_all (λ a. not (has_number q a)) live) → holds q test live ≡ false
holds-none q test [] h = refl
holds-none q test (a ∷ live) h =
    let s : IsTrue (not (has_number q a)) × IsTrue (list_all (λ b. not (has_number q b)) live) =
    both (not (has_number q a)) (list_all (λ b. not (has_number q b)) live) h in
    let off : has_number q a ≡ false = not-true (has_number q a) s.0 in
    rw (and_left (has_number q a) (test a) off) (holds-none q test live s.1)

-- numbers rise, so a test of an attempt with the number is a test of each attempt that has it
pub only_one : (q : ℕ) (test : Attempt → Bool) (live : List Attempt) → IsTrue (pairwise goes_before live)
    → IsTrue (holds q test live) → IsTrue (list_all (λ a. not (has_number q a) || test a) live)
only_one q test [] order h = refl
only_one q test (a ∷ live) order h =
    let s : IsTrue (list_all (goes_before a) live) × IsTrue (pairwise goes_before live) =
    both (list_all (goes_before a) live) (pairwise goes_before live) order in
    ⊎_elim
    (λ (here : has_number q a ≡ true).
    let rest : IsTrue (list_all (λ b. not (has_number q b)) live) =
    all_weaker (goes_before a) (λ b. not (has_number q b)) (λ b k. other_number q a b here k) live s.0 in
    let none : holds q test live ≡ false = holds-none q test live rest in
    let passes : IsTrue (test a) =
    ⊎_elim (λ (k : (has_number q a && test a) ≡ true). (both (has_number q a) (test a) k).1)
    (λ (k : holds q test live ≡ true). (cc)) (or_cases (has_number q a && test a) (holds q test live) h)
    in
    join (not (has_number q a) || test a) (list_all (λ b. not (has_number q b) || test b) live)
    (or_right (not (has_number q a)) (test a) passes)
    (all_weaker (λ b. not (has_number q b)) (λ b. not (has_number q b) || test b)
    (λ b k. or_left (not (has_number q b)) (test b) k) live rest))
    (λ (off : has_number q a ≡ false).
    let none : (has_number q a && test a) ≡ false = and_left (has_number q a) (test a) off in
    let later : IsTrue (holds q test live) =
    ⊎_elim (λ (k : (has_number q a && test a) ≡ true). (cc)) (λ (k : holds q test live ≡ true). k)
    (or_cases (has_number q a && test a) (holds q test live) h)
    in
    join (not (has_number q a) || test a) (list_all (λ b. not (has_number q b) || test b) live)
    (or_left (not (has_number q a)) (test a) (not_from_false (has_number q a) off))
    (only_one q test live s.1 later))
    (cases_Bool (has_number q a))

-- ---- a change of the attempt with the number

-- what holds of the change of an attempt that has the number, keeps the rules and passes the test
abbrev pub Keeps : ℕ → (Attempt → Bool) → (Attempt → Attempt) → (Attempt → Bool) → Type 0
Keeps q test change after = (a : Attempt) → IsTrue (has_number q a) → IsTrue (is_attempt a) → IsTrue (test a)
    → IsTrue (after (change a))

-- the change leaves the number and the devices as they are
pub record IsInside (change : Attempt → Attempt) : Type 0 where
  pub number : (a : Attempt) → (change a).seq ≡ a.seq
  pub devices : (a : Attempt) → devices_of (change a).answers ≡ devices_of a.answers

pub seq-changed : (q : ℕ) (change : Attempt → Attempt) → IsInside change → (a : Attempt)
    → (with_change q change a).seq ≡ a.seq
seq-changed q change inside a =
    cond_both (has_number q a) (change a) a (λ b. b.seq ≡ a.seq) (λ e. inside.number a) (λ e. refl)

pub devices_of-changed : (q : ℕ) (change : Attempt → Attempt) → IsInside change → (a : Attempt)
    → devices_of (with_change q change a).answers ≡ devices_of a.answers
devices_of-changed q change inside a =
    cond_both (has_number q a) (change a) a (λ b. devices_of b.answers ≡ devices_of a.answers) (λ e. inside.devices a)
    (λ e. refl)

pub goes_before-changed : (q : ℕ) (change : Attempt → Attempt) → IsInside change → (a b : Attempt)
    → IsTrue (goes_before a b) → IsTrue (goes_before (with_change q change a) (with_change q change b))
goes_before-changed q change inside a b h =
    rw (
      seq-changed q change inside a,
      seq-changed q change inside b,
      devices_of-changed q change inside a,
      devices_of-changed q change inside b,
    ) h

pub order-changed : (q : ℕ) (change : Attempt → Attempt) → IsInside change → (live : List Attempt)
    → IsTrue (pairwise goes_before live) → IsTrue (pairwise goes_before (map (with_change q change) live))
order-changed q change inside live h =
    pairwise_map goes_before (with_change q change) (goes_before-changed q change inside)
    live h

-- a test of each attempt, after the change
pub all-changed : (q : ℕ) (test : Attempt → Bool) (change : Attempt → Attempt) (after : Attempt → Bool)
    → ((a : Attempt) → IsTrue (is_attempt a) → IsTrue (after a)) → Keeps q test change after → (live : List Attempt)
    → IsTrue (are_live live) → IsTrue (holds q test live) → IsTrue (list_all after (map (with_change q change) live))
all-changed q test change after weak keeps live h passes =
    all_map after (with_change q change) live
    (all_given is_attempt (λ a. not (has_number q a) || test a) (λ a. after (with_change q change a))
    (λ a rules either.
    cond_both (has_number q a) (change a) a (λ b. IsTrue (after b))
    (λ here.
    ⊎_elim (λ (k : not (has_number q a) ≡ true).
    absurd (both_ways (not (has_number q a)) (not_from_true (has_number q a) here) k))
    (λ (k : test a ≡ true). keeps a here rules k)
    (or_cases (not (has_number q a)) (test a) either))
    (λ off. weak a rules))
    live (attempts_of live h) (only_one q test live (order_of live h) passes))

-- a change that keeps the rules of one keeps those of all
pub are_live-changed : (q : ℕ) (test : Attempt → Bool) (change : Attempt → Attempt) → IsInside change
    → Keeps q test change is_attempt → (live : List Attempt)
    → IsTrue (are_live live) → IsTrue (holds q test live) → IsTrue (are_live (map (with_change q change) live))
are_live-changed q test change inside keeps live h passes =
    are_live_from (map (with_change q change) live)
    (rw length-map (room_of live h))
    (all-changed q test change is_attempt (λ a k. k) keeps live h passes)
    (order-changed q change inside live (order_of live h))

-- sound, and open if it is q's
abbrev pub is_sound_at : ℕ → Attempt → Bool
is_sound_at q a = is_sound a && (has_number q a || is_open a.stage a.answers)

-- a sound attempt that goes on keeps the rules
pub is_attempt-goes_on : (q : ℕ) (a : Attempt) → IsTrue (is_sound_at q a) → IsTrue (goes_on q a) → IsTrue (is_attempt a)
is_attempt-goes_on q a sound on =
    let s : IsTrue (is_sound a) × IsTrue (has_number q a || is_open a.stage a.answers) =
    both (is_sound a) (has_number q a || is_open a.stage a.answers) sound in
    let open' : IsTrue (is_open a.stage a.answers) =
    ⊎_elim
    (λ (off : not (has_number q a) ≡ true).
    ⊎_elim (λ (k : has_number q a ≡ true). absurd (both_ways (has_number q a) (not-true (has_number q a) off) k))
    (λ (k : is_open a.stage a.answers ≡ true). k)
    (or_cases (has_number q a) (is_open a.stage a.answers) s.1))
    (λ (k : some_waits a.answers ≡ true). is_open-some_waits a.stage a.answers k)
    (or_cases (not (has_number q a)) (some_waits a.answers) on)
    in
    join (is_sound a) (is_open a.stage a.answers) s.0 open'

-- a change that keeps one sound, and then the end of it where no device is still to answer, keeps the rules of all
pub are_live-ended : (q : ℕ) (test : Attempt → Bool) (change : Attempt → Attempt) → IsInside change
    → Keeps q test change is_sound → (live : List Attempt)
    → IsTrue (are_live live) → IsTrue (holds q test live)
    → IsTrue (are_live (without_ended q (map (with_change q change) live)))
are_live-ended q test change inside keeps live h passes =
    let next : List Attempt = map (with_change q change) live in
    let sound : IsTrue (list_all (is_sound_at q) next) =
    all-changed q test change (is_sound_at q)
    (λ a k.
    let s : IsTrue (is_sound a) × IsTrue (is_open a.stage a.answers) =
    both (is_sound a) (is_open a.stage a.answers) k in
    join (is_sound a) (has_number q a || is_open a.stage a.answers) s.0
    (or_right (has_number q a) (is_open a.stage a.answers) s.1))
    (λ a here k t.
    join (is_sound (change a)) (has_number q (change a) || is_open (change a).stage (change a).answers)
    (keeps a here k t)
    (or_left (has_number q (change a)) (is_open (change a).stage (change a).answers) (rw (inside.number a) here)))
    live h passes
    in
    let short : length next ≤ MAX_LIVE = rw length-map (leb-true (length live) MAX_LIVE (room_of live h)) in
    are_live_from (filter (goes_on q) next)
    (le-leb (length (filter (goes_on q) next)) MAX_LIVE
    (omega (arith, length-filter_both (goes_on q) (λ a. not (goes_on q a)) (λ a. refl) next)))
    (all_given (is_sound_at q) (goes_on q) is_attempt (is_attempt-goes_on q) (filter (goes_on q) next)
    (all_filter (is_sound_at q) (goes_on q) next sound) (all_kept (goes_on q) next))
    (pairwise_filter goes_before (goes_on q) next (order-changed q change inside live (order_of live h)))

-- ---- when an attempt may begin

-- the parts of the test
pub record CanStart (q t : ℕ) (parts : List Part) (live : List Attempt) : Type 0 where
  pub number : IsTrue (is_number q)
  pub time : IsTrue (is_time t)
  pub room : IsTrue (has_room live)
  pub above : IsTrue (are_below q live)
  pub free : IsTrue (are_free (devices_in parts) live)
  pub devices : IsTrue (are_sound_parts parts)

pub can_start_parts : (q t : ℕ) (parts : List Part) (live : List Attempt) → IsTrue (can_start q t parts live)
    → CanStart q t parts live
can_start_parts q t parts live h =
    let c5 : Bool = are_free (devices_in parts) live && are_sound_parts parts in
    let c4 : Bool = are_below q live && c5 in
    let c3 : Bool = has_room live && c4 in
    let c2 : Bool = is_time t && c3 in
    let s1 : IsTrue (is_number q) × IsTrue c2 = both (is_number q) c2 h in
    let s2 : IsTrue (is_time t) × IsTrue c3 = both (is_time t) c3 s1.1 in
    let s3 : IsTrue (has_room live) × IsTrue c4 = both (has_room live) c4 s2.1 in
    let s4 : IsTrue (are_below q live) × IsTrue c5 = both (are_below q live) c5 s3.1 in
    let s5 : IsTrue (are_free (devices_in parts) live) × IsTrue (are_sound_parts parts) =
    both (are_free (devices_in parts) live) (are_sound_parts parts) s4.1 in
    record { number = s1.0; time = s2.0; room = s3.0; above = s4.0; free = s5.0; devices = s5.1 }

-- ---- one attempt

pub is_sound_from : (a : Attempt) → IsTrue (is_number a.seq) → IsTrue (is_time a.deadline)
    → IsTrue (have_sound_devices a.answers) → IsTrue (list_all (may_be_in a.stage) a.answers) → IsTrue (is_sound a)
is_sound_from a number time devices stand =
    join (is_number a.seq) (is_time a.deadline &&
    (have_sound_devices a.answers && list_all (may_be_in a.stage) a.answers)) number
    (join (is_time a.deadline) (have_sound_devices a.answers && list_all (may_be_in a.stage) a.answers) time
    (join (have_sound_devices a.answers) (list_all (may_be_in a.stage) a.answers) devices stand))

-- the parts of a sound attempt
pub record Sound (a : Attempt) : Type 0 where
  pub number : IsTrue (is_number a.seq)
  pub time : IsTrue (is_time a.deadline)
  pub devices : IsTrue (have_sound_devices a.answers)
  pub stand : IsTrue (list_all (may_be_in a.stage) a.answers)

pub sound_of : (a : Attempt) → IsTrue (is_sound a) → Sound a
sound_of a h =
    let s : IsTrue (is_number a.seq)
    × IsTrue (is_time a.deadline && (have_sound_devices a.answers && list_all (may_be_in a.stage) a.answers)) =
    both (is_number a.seq) (is_time a.deadline &&
    (have_sound_devices a.answers && list_all (may_be_in a.stage) a.answers)) h
    in
    let t : IsTrue (is_time a.deadline)
    × IsTrue (have_sound_devices a.answers && list_all (may_be_in a.stage) a.answers) =
    both (is_time a.deadline) (have_sound_devices a.answers && list_all (may_be_in a.stage) a.answers) s.1
    in
    let u : IsTrue (have_sound_devices a.answers) × IsTrue (list_all (may_be_in a.stage) a.answers) =
    both (have_sound_devices a.answers) (list_all (may_be_in a.stage) a.answers) t.1
    in
    record { number = s.0; time = t.0; devices = u.0; stand = u.1 }

pub is_sound-of_attempt : (a : Attempt) → IsTrue (is_attempt a) → IsTrue (is_sound a)
is_sound-of_attempt a h = (both (is_sound a) (is_open a.stage a.answers) h).0

pub inside-answers_as : (d : ℕ) (x : Answer) → IsInside (answers_as d x)
inside-answers_as d x = record { number = λ a. refl; devices = λ a. devices_of-with_answer d x a.answers }

pub inside-moves_to : (s : Stage) → IsInside (moves_to s)
inside-moves_to s = record { number = λ a. refl; devices = λ a. devices_of-entered s a.answers }

-- an answer that the stage knows, and that excuses no required device, keeps the attempt sound
pub is_sound-answers_as : (d : ℕ) (x : Answer) (a : Attempt) → IsTrue (is_known_in a.stage x)
    → IsTrue (excuses_none d x a.answers) → IsTrue (is_sound a) → IsTrue (is_sound (answers_as d x a))
is_sound-answers_as d x a known none h =
    let s : Sound a = sound_of a h in
    is_sound_from (answers_as d x a) s.number s.time (rw (has_required-with_answer, devices_of-with_answer) s.devices)
    (all_stand-with_answer a.stage d x a.answers known none s.stand)

-- an attempt that enters a stage keeps the rules
pub is_attempt-moves_to : (stage : Stage) (a : Attempt) → IsTrue (is_attempt a) → IsTrue (is_attempt (moves_to stage a))
is_attempt-moves_to stage a h =
    let s : Sound a = sound_of a (is_sound-of_attempt a h) in
    let some : IsTrue (some_waits (answers_on_entry stage a.answers)) =
    some_waits-entered a.stage stage a.answers
    ((both (has_required a.answers) (distinct (devices_of a.answers)) s.devices).0) s.stand
    in
    join (is_sound (moves_to stage a)) (is_open stage (answers_on_entry stage a.answers))
    (is_sound_from (moves_to stage a) s.number s.time (rw (has_required-entered, devices_of-entered) s.devices)
    (all_stand-entered a.stage stage a.answers s.stand))
    (is_open-some_waits stage (answers_on_entry stage a.answers) some)
