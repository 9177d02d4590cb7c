-- Two changes of the live attempts, one after the other.
use Rattle.std.proofs.Common.{◌≡◌, ℕ, List, [], ◌∷◌, refl, sym, ◌∙◌, ap, subst, Bool, true, false, not, ◌&&◌, ◌||◌}
use Rattle.std.proofs.Common.{nat_eq, nat_lt, Option, None, Some}
use Rattle.std.specs.Prelude.{IsTrue, map, filter, find, if◌then◌else◌, option_and_then}
use Rattle.std.specs.List.{list_all}
use Rattle.std.specs.Option.{option_map}
use Rattle.cue_exchange.specs.declared.attempt.Answer.{Answer}
use Rattle.cue_exchange.specs.declared.attempt.Answer.TheVariants as answer
use Rattle.cue_exchange.specs.declared.attempt.Reason.{Reason}
use Rattle.cue_exchange.specs.declared.attempt.Stage.{Stage}
use Rattle.cue_exchange.specs.declared.attempt.Stage.TheVariants.{Preparing, Decided, Cancelling}
use Rattle.cue_exchange.specs.declared.attempt.DeviceAnswer.{DeviceAnswer}
use Rattle.cue_exchange.specs.declared.attempt.Attempt.{Attempt}
use Rattle.cue_exchange.specs.Answers.{is_waiting, is_excused, some_waits, device_answer, answers_with, with_answer}
use Rattle.cue_exchange.specs.Answers.{entering, enters, answers_on_entry, devices_of}
use Rattle.cue_exchange.specs.Live.{attempt_of, is_among, distinct}
use Rattle.cue_exchange.specs.Steps.{with_change, answers_as, moves_to, after_answer, after_move, goes_on, ended_in}
use Rattle.cue_exchange.specs.Steps.{outcome_of}
use Rattle.cue_core.specs.State.{ShowState, with_live}
use Rattle.cue_core.specs.Steps.{after_last_answer, ended_as}
use Rattle.cue_core.proofs.lists.ConditionLemmas.{both, join, all_from, same_number}
use Rattle.cue_core.proofs.live.FindingLemmas.{rising, lacks, after_same, found_mapped, found-closed, if_closed}

cons_eq : {A : Type 0} (x y : A) (xs ys : List A) → x ≡ y → xs ≡ ys → x ∷ xs ≡ y ∷ ys
cons_eq x y xs ys p q = ap (λ z. z ∷ xs) p ∙ ap (λ zs. y ∷ zs) q

-- ---- two changes of one attempt

with_both : (d e : ℕ) (x y : Answer) → nat_eq d e ≡ false → (zs : List DeviceAnswer)
    → with_answer d x (with_answer e y zs) ≡ with_answer e y (with_answer d x zs)
with_both d e x y n [] = refl
with_both d e x y n (z ∷ zs) = cons_eq (answers_with d x (answers_with e y z)) (answers_with e y (answers_with d x z))
    (with_answer d x (with_answer e y zs)) (with_answer e y (with_answer d x zs))
    (at (nat_eq z.device d) (nat_eq z.device e) refl refl) (with_both d e x y n zs)
  where
    at : (b c : Bool) → nat_eq z.device d ≡ b → nat_eq z.device e ≡ c
        → answers_with d x (answers_with e y z) ≡ answers_with e y (answers_with d x z)
    at true true p q = let s = same_number z.device d p in let t : nat_eq d e ≡ true = rw (← s) q in cc
    at true false p q = rw (p, q) refl
    at false true p q = rw (p, q) refl
    at false false p q = rw (p, q) refl

changed_yes : (q : ℕ) (f : Attempt → Attempt) (a : Attempt) → nat_eq a.seq q ≡ true → with_change q f a ≡ f a
changed_yes q f a e = rw e refl

changed_no : (q : ℕ) (f : Attempt → Attempt) (a : Attempt) → nat_eq a.seq q ≡ false → with_change q f a ≡ a
changed_no q f a e = rw e refl

changed_both : (q : ℕ) (f g h k : Attempt → Attempt) → ((a : Attempt) → (g a).seq ≡ a.seq)
    → ((a : Attempt) → (k a).seq ≡ a.seq) → ((a : Attempt) → f (g a) ≡ h (k a)) → (live : List Attempt)
    → map (with_change q f) (map (with_change q g) live) ≡ map (with_change q h) (map (with_change q k) live)
changed_both q f g h k kg kk same [] = refl
changed_both q f g h k kg kk same (a ∷ live) =
    cons_eq (with_change q f (with_change q g a)) (with_change q h (with_change q k a))
    (map (with_change q f) (map (with_change q g) live)) (map (with_change q h) (map (with_change q k) live))
    (at (nat_eq a.seq q) refl)
    (changed_both q f g h k kg kk same live)
  where
    there : (m n : Attempt → Attempt) → ((b : Attempt) → (n b).seq ≡ b.seq) → nat_eq a.seq q ≡ true
        → with_change q m (with_change q n a) ≡ m (n a)
    there m n kn e = ap (with_change q m) (changed_yes q n a e)
        ∙ changed_yes q m (n a) (ap (λ p. nat_eq p q) (kn a) ∙ e)

    elsewhere : (m n : Attempt → Attempt) → nat_eq a.seq q ≡ false → with_change q m (with_change q n a) ≡ a
    elsewhere m n e = ap (with_change q m) (changed_no q n a e) ∙ changed_no q m a e

    at : (b : Bool) → nat_eq a.seq q ≡ b → with_change q f (with_change q g a) ≡ with_change q h (with_change q k a)
    at true e = there f g kg e ∙ (same a ∙ sym (there h k kk e))
    at false e = elsewhere f g e ∙ sym (elsewhere h k e)

pub given_number : (d : ℕ) (x : Answer) (a : Attempt) → (answers_as d x a).seq ≡ a.seq
given_number d x a = refl

pub moved_number : (stage : Stage) (a : Attempt) → (moves_to stage a).seq ≡ a.seq
moved_number stage a = refl

pub answered_both : (q d e : ℕ) (x y : Answer) (live : List Attempt) → nat_eq d e ≡ false
    → after_answer q d x (after_answer q e y live) ≡ after_answer q e y (after_answer q d x live)
answered_both q d e x y live n =
    changed_both q (answers_as d x) (answers_as e y) (answers_as e y) (answers_as d x) (given_number e y)
    (given_number d x)
    (λ a. ap (λ (zs : List DeviceAnswer). record a { answers = zs }) (with_both d e x y n a.answers)) live

-- an excused device is let go of as the preparation is given up
entered_excused : (r : Reason) (d : ℕ) (zs : List DeviceAnswer)
    → answers_on_entry (Cancelling r) (with_answer d answer.Excused zs) ≡ with_answer d answer.LetGo
    (answers_on_entry (Cancelling r) zs)
entered_excused r d [] = refl
entered_excused r d (z ∷ zs) = cons_eq (enters (Cancelling r) (answers_with d answer.Excused z))
    (answers_with d answer.LetGo (enters (Cancelling r) z))
    (answers_on_entry (Cancelling r) (with_answer d answer.Excused zs))
    (with_answer d answer.LetGo (answers_on_entry (Cancelling r) zs)) (at (nat_eq z.device d) refl)
    (entered_excused r d zs)
  where
    at : (b : Bool) → nat_eq z.device d ≡ b
        → enters (Cancelling r) (answers_with d answer.Excused z) ≡ answers_with d answer.LetGo
        (enters (Cancelling r) z)
    at true e = rw e refl
    at false e = rw e refl

pub moved_excused : (q d : ℕ) (r : Reason) (live : List Attempt)
    → after_move q (Cancelling r) (after_answer q d answer.Excused live) ≡ after_answer q d answer.LetGo
    (after_move q (Cancelling r) live)
moved_excused q d r live =
    changed_both q (moves_to (Cancelling r)) (answers_as d answer.Excused) (answers_as d answer.LetGo)
    (moves_to (Cancelling r)) (given_number d answer.Excused) (moved_number (Cancelling r))
    (λ a. ap (λ (zs : List DeviceAnswer). record a { stage = Cancelling r; answers = zs })
    (entered_excused r d a.answers)) live

-- ---- what holds of the attempt with the number

either : (c v : Bool) → IsTrue (not c) → IsTrue (not c || v)
either true v k = cc
either false v k = refl

either_right : (c v : Bool) → IsTrue v → IsTrue (not c || v)
either_right true v k = k
either_right false v k = refl

all_of_one : (q : ℕ) (P : Attempt → Bool) (a : Attempt) (live : List Attempt) → IsTrue (rising live)
    → attempt_of live q ≡ Some a → IsTrue (P a) → IsTrue (list_all (λ b. not (nat_eq b.seq q) || P b) live)
all_of_one q P a [] h e w = refl
all_of_one q P a (b ∷ live) h e w =
    let p = both (list_all (λ c. nat_lt b.seq c.seq) live) (rising live) h in
    at (nat_eq b.seq q) refl e (λ k. others (after_same q b.seq live k p.0)) (λ k. all_of_one q P a live p.1 k w)
  where
    others : IsTrue (lacks q live) → IsTrue (list_all (λ c. not (nat_eq c.seq q) || P c) live)
    others k = all_from (λ c. not (nat_eq c.seq q)) (λ c. not (nat_eq c.seq q) || P c) live
        (λ c l. either (nat_eq c.seq q) (P c) l) k

    at : (c : Bool) → nat_eq b.seq q ≡ c → (if c then Some b else attempt_of live q) ≡ Some a
        → (IsTrue (nat_eq b.seq q) → IsTrue (list_all (λ d. not (nat_eq d.seq q) || P d) live))
        → (attempt_of live q ≡ Some a → IsTrue (list_all (λ d. not (nat_eq d.seq q) || P d) live))
        → IsTrue ((not (nat_eq b.seq q) || P b) && list_all (λ d. not (nat_eq d.seq q) || P d) live)
    at true n k f g = let same : a ≡ b = cc in
        join (not (nat_eq b.seq q) || P b) (list_all (λ d. not (nat_eq d.seq q) || P d) live)
        (either_right (nat_eq b.seq q) (P b) (subst (λ (c : Attempt). IsTrue (P c)) same w)) (f n)
    at false n k f g = join (not (nat_eq b.seq q) || P b) (list_all (λ d. not (nat_eq d.seq q) || P d) live) (rw n refl)
        (g k)

-- ---- a change that another covers

changed_over : (q : ℕ) (f g : Attempt → Attempt) (P : Attempt → Bool) → ((a : Attempt) → (g a).seq ≡ a.seq)
    → ((a : Attempt) → IsTrue (P a) → f (g a) ≡ f a) → (live : List Attempt)
    → IsTrue (list_all (λ b. not (nat_eq b.seq q) || P b) live)
    → map (with_change q f) (map (with_change q g) live) ≡ map (with_change q f) live
changed_over q f g P kg same [] h = refl
changed_over q f g P kg same (a ∷ live) h =
    let k = both (not (nat_eq a.seq q) || P a) (list_all (λ b. not (nat_eq b.seq q) || P b) live) h in
    cons_eq (with_change q f (with_change q g a)) (with_change q f a)
    (map (with_change q f) (map (with_change q g) live))
    (map (with_change q f) live) (at (nat_eq a.seq q) refl k.0) (changed_over q f g P kg same live k.1)
  where
    at : (b : Bool) → nat_eq a.seq q ≡ b → IsTrue (not b || P a)
        → with_change q f (with_change q g a) ≡ with_change q f a
    at true e k = ap (with_change q f) (changed_yes q g a e)
        ∙ (changed_yes q f (g a) (ap (λ n. nat_eq n q) (kg a) ∙ e) ∙ (same a k ∙ sym (changed_yes q f a e)))
    at false e k = ap (with_change q f) (changed_no q g a e)

-- a device that was not excused is asked again
pub asked_anew : (stage : Stage) (x : Answer) → IsTrue (not (is_excused x)) → entering stage x ≡ answer.Waiting
asked_anew Preparing answer.Waiting h = refl
asked_anew Preparing answer.Ready h = refl
asked_anew Preparing answer.Done h = refl
asked_anew Preparing answer.LetGo h = refl
asked_anew Preparing answer.Failed h = refl
asked_anew Preparing answer.Excused h = cc
asked_anew Decided answer.Waiting h = refl
asked_anew Decided answer.Ready h = refl
asked_anew Decided answer.Done h = refl
asked_anew Decided answer.LetGo h = refl
asked_anew Decided answer.Failed h = refl
asked_anew Decided answer.Excused h = cc
asked_anew (Cancelling r) answer.Waiting h = refl
asked_anew (Cancelling r) answer.Ready h = refl
asked_anew (Cancelling r) answer.Done h = refl
asked_anew (Cancelling r) answer.LetGo h = refl
asked_anew (Cancelling r) answer.Failed h = refl
asked_anew (Cancelling r) answer.Excused h = cc

-- no record of the device says that it was excused
abbrev pub is_unexcused : ℕ → List DeviceAnswer → Bool
is_unexcused d zs = list_all (λ z. not (nat_eq z.device d && is_excused z.answer)) zs

-- the device stands there once, and was not excused
pub unexcused : (x : DeviceAnswer) (zs : List DeviceAnswer) → IsTrue (distinct (devices_of zs))
    → device_answer zs x.device ≡ Some x → IsTrue (not (is_excused x.answer)) → IsTrue (is_unexcused x.device zs)
unexcused x [] h e n = refl
unexcused x (z ∷ zs) h e n =
    let p = both (not (is_among z.device (devices_of zs))) (distinct (devices_of zs)) h in
    at (nat_eq z.device x.device) refl e p.0 (λ k. unexcused x zs p.1 k n)
  where
    none : (ys : List DeviceAnswer) → IsTrue (not (is_among x.device (devices_of ys)))
        → IsTrue (is_unexcused x.device ys)
    none [] k = refl
    none (y ∷ ys) k = apart (nat_eq y.device x.device) (is_excused y.answer) (is_among x.device (devices_of ys)) k
        (none ys)
      where
        apart : (b c m : Bool) → IsTrue (not (b || m)) → (IsTrue (not m) → IsTrue (is_unexcused x.device ys))
            → IsTrue (not (b && c) && is_unexcused x.device ys)
        apart true c m k f = cc
        apart false c m k f = f k

    clear : (b c : Bool) → IsTrue (not c) → IsTrue (not (b && c))
    clear true c k = k
    clear false c k = refl

    at : (b : Bool) → nat_eq z.device x.device ≡ b → (if b then Some z else device_answer zs x.device) ≡ Some x
        → IsTrue (not (is_among z.device (devices_of zs)))
        → (device_answer zs x.device ≡ Some x → IsTrue (is_unexcused x.device zs))
        → IsTrue (not (nat_eq z.device x.device && is_excused z.answer) && is_unexcused x.device zs)
    at true s k m f =
        let same : x ≡ z = cc in
        join (not (nat_eq z.device x.device && is_excused z.answer)) (is_unexcused x.device zs)
        (clear (nat_eq z.device x.device) (is_excused z.answer)
        (subst (λ (y : DeviceAnswer). IsTrue (not (is_excused y.answer))) same n))
        (none zs (subst (λ (d : ℕ). IsTrue (not (is_among d (devices_of zs)))) (same_number z.device x.device s) m))
    at false s k m f = join (not (nat_eq z.device x.device && is_excused z.answer)) (is_unexcused x.device zs)
        (rw s refl) (f k)

entered_over : (stage : Stage) (d : ℕ) (x : Answer) (zs : List DeviceAnswer) → IsTrue (not (is_excused x))
    → IsTrue (is_unexcused d zs) → answers_on_entry stage (with_answer d x zs) ≡ answers_on_entry stage zs
entered_over stage d x [] n h = refl
entered_over stage d x (z ∷ zs) n h =
    let p = both (not (nat_eq z.device d && is_excused z.answer)) (is_unexcused d zs) h in
    cons_eq (enters stage (answers_with d x z)) (enters stage z) (answers_on_entry stage (with_answer d x zs))
    (answers_on_entry stage zs)
    (at (nat_eq z.device d) refl p.0) (entered_over stage d x zs n p.1)
  where
    at : (b : Bool) → nat_eq z.device d ≡ b → IsTrue (not (b && is_excused z.answer))
        → enters stage (answers_with d x z) ≡ enters stage z
    at true e k = rw e (ap (λ (y : Answer). record z { answer = y }) (asked_anew stage x n
        ∙ sym (asked_anew stage z.answer k)))
    at false e k = rw e refl

pub moved_over : (q d : ℕ) (stage : Stage) (x : Answer) (a : Attempt) (live : List Attempt) → IsTrue (rising live)
    → attempt_of live q ≡ Some a → IsTrue (not (is_excused x)) → IsTrue (is_unexcused d a.answers)
    → after_move q stage (after_answer q d x live) ≡ after_move q stage live
moved_over q d stage x a live h e n k =
    changed_over q (moves_to stage) (answers_as d x) (λ b. is_unexcused d b.answers) (given_number d x)
    (λ b l. ap (λ (zs : List DeviceAnswer). record b { stage = stage; answers = zs })
    (entered_over stage d x b.answers n l)) live (all_of_one q (λ b. is_unexcused d b.answers) a live h e k)

-- ---- an attempt that goes on

filter_all : {A : Type 0} (p : A → Bool) (xs : List A) → IsTrue (list_all p xs) → filter p xs ≡ xs
filter_all p [] h = refl
filter_all p (x ∷ xs) h = let k = both (p x) (list_all p xs) h in rw k.0 (ap (λ ys. x ∷ ys) (filter_all p xs k.1))

pub settled_open : (s : ShowState) (q : ℕ) (live : List Attempt) (a : Attempt) → IsTrue (rising live)
    → attempt_of live q ≡ Some a → some_waits a.answers ≡ true → after_last_answer s q live ≡ with_live s live
settled_open s q live a h e w =
    let open_one : if_closed a ≡ None = rw w refl in
    let none : find (λ (b : Attempt). not (goes_on q b)) live ≡ None = found-closed q live h
    ∙ (ap (λ (o : Option Attempt). option_and_then if_closed o) e ∙ open_one) in
    ap (λ (l : List Attempt). record {
      show = s.show;
      live = l;
      last_seq = s.last_seq;
      ended = ended_as q
          (ended_in q live) s.ended;
    })
    (filter_all (goes_on q) live (all_of_one q (λ b. some_waits b.answers) a live h e w))
    ∙ ap (λ (o : Option Attempt). record {
      show = s.show;
      live = live;
      last_seq = s.last_seq;
      ended = ended_as q
          (option_map outcome_of o) s.ended;
    }) none

-- ---- what a device has answered

pub device_answer-other : (d e : ℕ) (x : Answer) (zs : List DeviceAnswer) → nat_eq d e ≡ false
    → device_answer (with_answer d x zs) e ≡ device_answer zs e
device_answer-other d e x [] n = refl
device_answer-other d e x (z ∷ zs) n =
    at (nat_eq z.device e) (nat_eq z.device d) refl refl (device_answer-other d e x zs n)
  where
    at : (b c : Bool) → nat_eq z.device e ≡ b → nat_eq z.device d ≡ c
        → device_answer (with_answer d x zs) e ≡ device_answer zs e
        → (if b then Some (answers_with d x z) else device_answer (with_answer d x zs) e)
        ≡ (if b then Some z else device_answer zs e)
    at true true p q h = let s = same_number z.device d q in let t : nat_eq d e ≡ true = rw (← s) p in cc
    at true false p q h = rw q refl
    at false c p q h = h

pub device_answer-entered : (stage : Stage) (e : ℕ) (y : DeviceAnswer) (zs : List DeviceAnswer)
    → device_answer zs e ≡ Some y → device_answer (answers_on_entry stage zs) e ≡ Some (enters stage y)
device_answer-entered stage e y zs h = found_mapped (λ z. nat_eq z.device e) (enters stage) (λ z. refl) zs
    ∙ ap (λ (o : Option DeviceAnswer). option_map (enters stage) o) h

pub waiting_some : (e : ℕ) (y : DeviceAnswer) (zs : List DeviceAnswer) → device_answer zs e ≡ Some y
    → IsTrue (is_waiting y.answer) → some_waits zs ≡ true
waiting_some e y [] h w = cc
waiting_some e y (z ∷ zs) h w = at (nat_eq z.device e) h (λ k. waiting_some e y zs k w)
  where
    or_true : (b c : Bool) → b ≡ true → (b || c) ≡ true
    or_true true c k = refl
    or_true false c k = cc

    or_later : (b c : Bool) → c ≡ true → (b || c) ≡ true
    or_later true c k = refl
    or_later false c k = k

    at : (b : Bool) → (if b then Some z else device_answer zs e) ≡ Some y
        → (device_answer zs e ≡ Some y → some_waits zs ≡ true) → (is_waiting z.answer || some_waits zs) ≡ true
    at true k f = let same : z ≡ y = cc in
        or_true (is_waiting z.answer) (some_waits zs) (ap (λ (x : DeviceAnswer). is_waiting x.answer) same ∙ w)
    at false k f = or_later (is_waiting z.answer) (some_waits zs) (f k)
