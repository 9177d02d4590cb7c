-- What becomes of a go or a cancel is acceptable in turn.
use Rattle.std.proofs.Common.{◌≡◌, ℕ, List, [], ◌∷◌, refl, ◌∙◌, ap, Bool, true, false, not}
use Rattle.std.proofs.Common.{◌&&◌, ◌||◌, nat_eq, Option, None, Some}
use Rattle.std.specs.Prelude.{IsTrue, map, find, if◌then◌else◌}
use Rattle.std.specs.Option.{option_map, option_map_or}
use Rattle.cue_show.specs.Show.{has_cue}
use Rattle.cue_exchange.specs.declared.attempt.Answer.{Answer}
use Rattle.cue_exchange.specs.declared.attempt.Reason.{Reason}
use Rattle.cue_exchange.specs.declared.attempt.Reason.TheVariants.{Operator}
use Rattle.cue_exchange.specs.declared.attempt.Stage.{Stage}
use Rattle.cue_exchange.specs.declared.attempt.Stage.TheVariants.{Preparing, Decided, Cancelling}
use Rattle.cue_exchange.specs.declared.attempt.DeviceAnswer.{DeviceAnswer}
use Rattle.cue_exchange.specs.declared.attempt.Attempt.{Attempt}
use Rattle.cue_exchange.specs.Answers.{is_waiting, is_preparing, is_decided, is_cancelling}
use Rattle.cue_exchange.specs.Answers.{is_excused}
use Rattle.cue_exchange.specs.Answers.{entering, answers_on_entry, answer_of, answer_passes}
use Rattle.cue_exchange.specs.Live.{attempt_of_cue, has_cue as is_of_cue}
use Rattle.cue_exchange.specs.Steps.{holds, waits_in, with_change, moves_to, after_move, can_go_now}
use Rattle.cue_exchange.proofs.AnswerLemmas.{is_waiting-entering}
use Rattle.cue_core.specs.declared.event.Event.TheVariants as event
use Rattle.cue_core.specs.declared.command.Code.TheVariants as code
use Rattle.cue_core.specs.State.{ShowState}
use Rattle.cue_core.specs.Steps.{acceptable, are_acceptable}
use Rattle.cue_core.specs.Judge.{made_by, known_already, refused_with, on_go, on_go_of, on_cancel}
use Rattle.cue_core.specs.Judge.{on_cancel_of}
use Rattle.cue_core.proofs.lists.ConditionLemmas.{join, same_self}
use Rattle.cue_core.proofs.verdicts.ShowJudgementLemmas.{one}
use Rattle.cue_show.proofs.TestLemmas.{or_left, or_right}

-- ---- a live attempt

-- a test on the attempt that was found holds of its number
pub found_holds : (t test : Attempt → Bool) (live : List Attempt) (a : Attempt) → find t live ≡ Some a → IsTrue (test a)
    → IsTrue (holds a.seq test live)
found_holds t test [] a e k = cc
found_holds t test (x ∷ live) a e k = at (t x) e (found_holds t test live a)
  where
    later : (b c : Bool) → IsTrue c → IsTrue (b || c)
    later true c h = refl
    later false c h = h

    at : (b : Bool) → (if b then Some x else find t live) ≡ Some a
        → (find t live ≡ Some a → IsTrue (test a) → IsTrue (holds a.seq test live))
        → IsTrue ((nat_eq x.seq a.seq && test x) || holds a.seq test live)
    at true e f = let same : x ≡ a = cc in rw (same, same_self a.seq, k) refl
    at false e f = later (nat_eq x.seq a.seq && test x) (holds a.seq test live) (f e k)

changed_itself : (f : Attempt → Attempt) (a : Attempt) → with_change a.seq f a ≡ f a
changed_itself f a = at (nat_eq a.seq a.seq) (same_self a.seq)
  where
    at : (b : Bool) → b ≡ true → (if b then f a else a) ≡ f a
    at true e = refl
    at false e = cc

-- and of the attempt as it is changed
found_holds_changed : (t test : Attempt → Bool) (f : Attempt → Attempt) → ((b : Attempt) → (f b).seq ≡ b.seq)
    → (live : List Attempt) (a : Attempt) → find t live ≡ Some a → IsTrue (test (f a))
    → IsTrue (holds a.seq test (map (with_change a.seq f) live))
found_holds_changed t test f keeps [] a e k = cc
found_holds_changed t test f keeps (x ∷ live) a e k = at (t x) e (found_holds_changed t test f keeps live a)
  where
    here : (y : Attempt) → y ≡ f a → IsTrue (nat_eq y.seq a.seq && test y)
    here y same = rw same (join (nat_eq (f a).seq a.seq) (test (f a)) (rw (keeps a) (same_self a.seq)) k)

    at : (b : Bool) → (if b then Some x else find t live) ≡ Some a
        → (find t live ≡ Some a → IsTrue (test (f a)) → IsTrue (holds a.seq test (map (with_change a.seq f) live)))
        → IsTrue ((nat_eq (with_change a.seq f x).seq a.seq && test (with_change a.seq f x)) || holds a.seq test
        (map (with_change a.seq f) live))
    at true e g = let same : x ≡ a = cc in
        or_left (nat_eq (with_change a.seq f x).seq a.seq && test (with_change a.seq f x))
        (holds a.seq test (map (with_change a.seq f) live))
        (here (with_change a.seq f x) (ap (with_change a.seq f) same ∙ changed_itself f a))
    at false e g = or_right (nat_eq (with_change a.seq f x).seq a.seq && test (with_change a.seq f x))
        (holds a.seq test (map (with_change a.seq f) live)) (g e k)

go_of_fits : (s : ShowState) (t : Attempt → Bool) (a : Attempt) → find t s.live ≡ Some a
    → IsTrue (are_acceptable s (on_go_of a).1)
go_of_fits s t a e = by (is_decided a.stage) (can_go_now a) refl
  where
    by : (b g : Bool) → can_go_now a ≡ g
        → IsTrue (are_acceptable s (if b then known_already else if g then made_by (event.Go a.seq ∷ []) else
        refused_with
        code.NotReady).1)
    by true g k = refl
    by false true k = one s (event.Go a.seq) (found_holds t can_go_now s.live a e k)
    by false false k = refl

pub go_fits : (s : ShowState) (c : List ℕ) → IsTrue (are_acceptable s (on_go s c).1)
go_fits s c = by (has_cue s.show c) (attempt_of_cue s.live c) refl
  where
    by : (b : Bool) (o : Option Attempt) → attempt_of_cue s.live c ≡ o
        → IsTrue (are_acceptable s (if not b then refused_with code.NoMethod else option_map_or on_go_of o
        (refused_with code.NotLive)).1)
    by false o e = refl
    by true None e = refl
    by true (Some a) e = go_of_fits s (is_of_cue c) a e

undecided : (stage : Stage) → is_decided stage ≡ false → is_cancelling stage ≡ false → IsTrue (is_preparing stage)
undecided Preparing a b = refl
undecided Decided a b = cc
undecided (Cancelling r) a b = cc

cancel_of_fits : (s : ShowState) (t : Attempt → Bool) (a : Attempt) → find t s.live ≡ Some a
    → IsTrue (are_acceptable s (on_cancel_of a).1)
cancel_of_fits s t a e = by (is_decided a.stage) (is_cancelling a.stage) refl refl
  where
    by : (b g : Bool) → is_decided a.stage ≡ b → is_cancelling a.stage ≡ g
        → IsTrue (are_acceptable s
        (if b then refused_with code.Decided else if g then known_already else made_by
        (event.Cancel a.seq Operator ∷ [])).1)
    by true g k l = refl
    by false true k l = refl
    by false false k l = one s (event.Cancel a.seq Operator)
        (found_holds t (λ b. is_preparing b.stage) s.live a e (undecided a.stage k l))

pub cancel_fits : (s : ShowState) (c : List ℕ) → IsTrue (are_acceptable s (on_cancel s c).1)
cancel_fits s c = by (has_cue s.show c) (attempt_of_cue s.live c) refl
  where
    by : (b : Bool) (o : Option Attempt) → attempt_of_cue s.live c ≡ o
        → IsTrue (are_acceptable s (if not b then refused_with code.NoMethod else option_map_or on_cancel_of o
        (refused_with code.NotLive)).1)
    by false o e = refl
    by true None e = refl
    by true (Some a) e = cancel_of_fits s (is_of_cue c) a e

-- a device of an attempt that is cancelled is asked again, where it was not excused
asked_anew : (stage : Stage) (d : ℕ) (x : Answer) (ys : List DeviceAnswer) → answer_of ys d ≡ Some x
    → IsTrue (not (is_excused x)) → IsTrue (answer_passes is_waiting d (answers_on_entry stage ys))
asked_anew stage d x [] e n = absurd cc
asked_anew stage d x (y ∷ ys) e n = at (nat_eq y.device d) e (λ f. asked_anew stage d x ys f n)
  where
    at : (b : Bool) → option_map (λ z. z.answer) (if b then Some y else find (λ z. nat_eq z.device d) ys) ≡ Some x
        → (answer_of ys d ≡ Some x → IsTrue (answer_passes is_waiting d (answers_on_entry stage ys)))
        → IsTrue ((b && is_waiting (entering stage y.answer)) || answer_passes is_waiting d (answers_on_entry stage ys))
    at true e f = let same : y.answer ≡ x = cc in rw (same, is_waiting-entering stage x n) refl
    at false e f = f e

-- Cancel, and then an answer to it
pub cancelled_then : (s : ShowState) (t : Attempt → Bool) (a : Attempt) (r : Reason) (d : ℕ) (x : Answer) (stage : Stage
    → Bool) → find t s.live ≡ Some a → IsTrue (is_preparing a.stage) → answer_of a.answers d ≡ Some x
    → IsTrue (not (is_excused x))
    → IsTrue (stage (Cancelling r))
    → IsTrue (acceptable s (event.Cancel a.seq r))
    × IsTrue (holds a.seq (waits_in stage d) (after_move a.seq (Cancelling r) s.live))
cancelled_then s t a r d x stage e p m n k = (
  found_holds t (λ b. is_preparing b.stage) s.live a e p,
  found_holds_changed t (waits_in stage d) (moves_to (Cancelling r)) (λ b. refl) s.live a e
      (join (stage (Cancelling r)) (answer_passes is_waiting d (answers_on_entry (Cancelling r) a.answers)) k
      (asked_anew (Cancelling r) d x a.answers m n)),
)
