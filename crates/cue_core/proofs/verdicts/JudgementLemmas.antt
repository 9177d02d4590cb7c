-- What judging makes is acceptable in turn.
use Rattle.std.proofs.Common.{◌≡◌, ℕ, List, [], ◌∷◌, refl, sym, ap, subst, Bool, true, false, not}
use Rattle.std.proofs.Common.{◌&&◌, ◌||◌, nat_eq, nat_lt, Option, None, Some, Result, Ok, Err}
use Rattle.std.specs.Prelude.{IsTrue, IfOk, find, if◌then◌else◌}
use Rattle.std.specs.List.{list_all}
use Rattle.std.specs.Option.{option_map, option_map_or}
use Rattle.cue_show.specs.Show.{has_device}
use Rattle.cue_exchange.specs.declared.attempt.Answer.{Answer}
use Rattle.cue_exchange.specs.declared.attempt.Answer.TheVariants as answer
use Rattle.cue_exchange.specs.declared.attempt.Reason.{Reason}
use Rattle.cue_exchange.specs.declared.attempt.Reason.TheVariants.{Abort, Release}
use Rattle.cue_exchange.specs.declared.attempt.Stage.{Stage}
use Rattle.cue_exchange.specs.declared.attempt.Stage.TheVariants.{Preparing, Decided, Cancelling}
use Rattle.cue_exchange.specs.declared.attempt.DeviceAnswer.{DeviceAnswer}
use Rattle.cue_exchange.specs.declared.attempt.Attempt.{Attempt}
use Rattle.cue_exchange.specs.Answers.{is_waiting, is_preparing, is_decided, is_cancelling, is_concluding, is_ready}
use Rattle.cue_exchange.specs.Answers.{is_excused, is_excusable, is_known_in, can_be_excused, is_required, may_be_in}
use Rattle.cue_exchange.specs.Answers.{answer_of, device_answer, answer_passes}
use Rattle.cue_exchange.specs.Live.{attempt_of, attempt_of_device, has_number, has_device as is_of_device}
use Rattle.cue_exchange.specs.Steps.{holds, waits_in, after_move}
use Rattle.cue_core.specs.declared.event.Event.{Event}
use Rattle.cue_core.specs.declared.event.Event.TheVariants as event
use Rattle.cue_core.specs.declared.command.AnswerKind.{AnswerKind}
use Rattle.cue_core.specs.declared.command.AnswerKind.TheVariants as answer_kind
use Rattle.cue_core.specs.declared.command.Code.TheVariants as code
use Rattle.cue_core.specs.declared.command.Command.{Command}
use Rattle.cue_core.specs.declared.command.Command.TheVariants as command
use Rattle.cue_core.specs.State.{ShowState, is_state}
use Rattle.cue_core.specs.Steps.{acceptable, after, are_acceptable}
use Rattle.cue_core.specs.Answers.{has_situation, EachHasASituation}
use Rattle.cue_core.specs.Judge.{made_by, refused_with, judgement_of, is_fit}
use Rattle.cue_core.specs.Judge.{on_release, on_release_of, on_release_in, release_early, abort_early, abort_late}
use Rattle.cue_core.specs.Judge.{on_answer, on_answer_to, on_answer_in, is_from_another}
use Rattle.cue_core.proofs.lists.ConditionLemmas.{both, join, all_from, same_number}
use Rattle.cue_core.proofs.live.FindingLemmas.{found_passes}
use Rattle.cue_core.proofs.rules.RuleLemmas.{rules_of}
use Rattle.cue_core.proofs.rules.SoundLemmas.{sound_of}
use Rattle.cue_core.proofs.verdicts.ShowJudgementLemmas.{one, two, add_device_fits, remove_device_fits, add_cue_fits}
use Rattle.cue_core.proofs.verdicts.ShowJudgementLemmas.{goto_fits, remove_cue_fits, standby_fits}
use Rattle.cue_core.proofs.verdicts.LiveJudgementLemmas.{found_holds, go_fits, cancel_fits, cancelled_then}

-- ---- answers and release

-- the device is one of the attempt, and its answer passes the tests that it passes
answer_told : (d : ℕ) (xs : List DeviceAnswer) (x : Answer) → answer_of xs d ≡ Some x → (test : Answer → Bool)
    → IsTrue (test x) → IsTrue (answer_passes test d xs)
answer_told d [] x e test k = absurd cc
answer_told d (y ∷ ys) x e test k = at (nat_eq y.device d) e (λ f. answer_told d ys x f test k)
  where
    at : (b : Bool) → option_map (λ z. z.answer) (if b then Some y else find (λ z. nat_eq z.device d) ys) ≡ Some x
        → (answer_of ys d ≡ Some x → IsTrue (answer_passes test d ys))
        → IsTrue ((b && test y.answer) || answer_passes test d ys)
    at true e f = let same : y.answer ≡ x = cc in rw (same, k) refl
    at false e f = f e

-- a device that is found may be excused, where its record says so
found_excusable : (d : ℕ) (xs : List DeviceAnswer) (w : DeviceAnswer) → device_answer xs d ≡ Some w
    → IsTrue (can_be_excused w) → IsTrue (is_excusable d xs)
found_excusable d [] w e k = absurd cc
found_excusable d (y ∷ ys) w e k = at (nat_eq y.device d) e (λ f. found_excusable d ys w f k)
  where
    at : (b : Bool) → (if b then Some y else device_answer ys d) ≡ Some w
        → (device_answer ys d ≡ Some w → IsTrue (is_excusable d ys))
        → IsTrue ((b && can_be_excused y) || is_excusable d ys)
    at true e f = let same : y ≡ w = cc in rw (same, k) refl
    at false e f = f e

-- the device w is recorded in the attempt, with the answer x
record Told (a : Attempt) (w : DeviceAnswer) (x : Answer) : Type 0 where
  pub answer : answer_of a.answers w.device ≡ Some x
  pub device : device_answer a.answers w.device ≡ Some w
  pub same : w.answer ≡ x

-- what is said of an attempt that was found, and of a device of it with its answer
module _ (s : ShowState) (t : Attempt → Bool) (a : Attempt) (w : DeviceAnswer) (e : find t s.live ≡ Some a) where
  waits_fits : (stage : Stage) (test : Stage → Bool) (x : Answer) → a.stage ≡ stage → Told a w x → IsTrue (test stage)
      → IsTrue (is_waiting x) → IsTrue (holds a.seq (waits_in test w.device) s.live)
  waits_fits stage test x f g h k =
      found_holds t (waits_in test w.device) s.live a e
      (join (test a.stage) (answer_passes is_waiting w.device a.answers) (rw f h)
      (answer_told w.device a.answers x g.answer is_waiting k))

  -- Cancel, and then an answer of the device to it
  cancel_fits_then : (r : Reason) (x : Answer) (last : Event) (stage : Stage → Bool) → a.stage ≡ Preparing → Told a w x
      → IsTrue (not (is_excused x)) → IsTrue (stage (Cancelling r))
      → (IsTrue (holds a.seq (waits_in stage w.device) (after_move a.seq (Cancelling r) s.live))
      → IsTrue (acceptable (after s (event.Cancel a.seq r)) last))
      → IsTrue (are_acceptable s (event.Cancel a.seq r ∷ last ∷ []))
  cancel_fits_then r x last stage f g n k fits = let h = cancelled_then s t a r w.device x stage e (rw f refl) g.answer
      n k in two s (event.Cancel a.seq r) last h.0 (fits h.1)

  -- an optional device of a Preparing attempt, that waits or stands by, is excused
  excuse_fits : (x : Answer) → a.stage ≡ Preparing → Told a w x → IsTrue (is_waiting x || is_ready x)
      → w.optional ≡ true → IsTrue (are_acceptable s (event.Excuse a.seq w.device ∷ []))
  excuse_fits x f g k o =
      one s (event.Excuse a.seq w.device)
      (found_holds t (λ b. is_preparing b.stage && is_excusable w.device b.answers) s.live a e
      (join (is_preparing a.stage) (is_excusable w.device a.answers) (rw f refl)
      (found_excusable w.device a.answers w g.device (rw (o, g.same) k))))

  release_early_fits : (x : Answer) → a.stage ≡ Preparing → Told a w x → IsTrue (is_waiting x || is_ready x)
      → IsTrue (not (is_excused x)) → IsTrue (are_acceptable s (release_early a.seq w).1)
  release_early_fits x f g k n = by w.optional refl
    where
      by : (b : Bool) → w.optional ≡ b
          → IsTrue (are_acceptable s
          (if b then made_by (event.Excuse a.seq w.device ∷ []) else made_by
          (event.Cancel a.seq Release ∷ event.LetGo a.seq w.device ∷ [])).1)
      by true o = excuse_fits x f g k o
      by false o = cancel_fits_then Release x (event.LetGo a.seq w.device) is_cancelling f g n refl (λ h. h)

  abort_early_fits : (x : Answer) → a.stage ≡ Preparing → Told a w x → IsTrue (is_waiting x || is_ready x)
      → IsTrue (not (is_excused x)) → IsTrue (are_acceptable s (abort_early a.seq w).1)
  abort_early_fits x f g k n = by w.optional refl
    where
      by : (b : Bool) → w.optional ≡ b
          → IsTrue (are_acceptable s
          (if b then made_by (event.Excuse a.seq w.device ∷ []) else made_by
          (event.Cancel a.seq Abort ∷ event.Failed a.seq w.device ∷ [])).1)
      by true o = excuse_fits x f g k o
      by false o = cancel_fits_then Abort x (event.Failed a.seq w.device) is_concluding f g n refl (λ h. h)

  abort_late_fits : (r : Reason) → a.stage ≡ Cancelling r → Told a w answer.Waiting
      → IsTrue (are_acceptable s (abort_late a.seq w).1)
  abort_late_fits r f g = by w.optional
    where
      by : (b : Bool) → IsTrue
          (are_acceptable s (if b then made_by (event.LetGo a.seq w.device ∷ []) else made_by
          (event.Failed a.seq w.device ∷ [])).1)
      by true = one s (event.LetGo a.seq w.device)
          (waits_fits (Cancelling r) is_cancelling answer.Waiting f g refl refl)
      by false = one s (event.Failed a.seq w.device)
          (waits_fits (Cancelling r) is_concluding answer.Waiting f g refl refl)

  release_in_fits : (stage : Stage) (x : Answer) → a.stage ≡ stage → Told a w x
      → IsTrue (are_acceptable s (on_release_in a.seq w stage x).1)
  release_in_fits Preparing answer.Waiting f g = release_early_fits answer.Waiting f g refl refl
  release_in_fits Preparing answer.Ready f g = release_early_fits answer.Ready f g refl refl
  release_in_fits Preparing _ f g = refl
  release_in_fits Decided answer.Waiting f g =
      one s (event.Failed a.seq w.device) (waits_fits Decided is_concluding answer.Waiting f g refl refl)
  release_in_fits Decided _ f g = refl
  release_in_fits (Cancelling r) answer.Waiting f g =
      one s (event.LetGo a.seq w.device) (waits_fits (Cancelling r) is_cancelling answer.Waiting f g refl refl)
  release_in_fits (Cancelling r) _ f g = refl

  answer_in_fits : (kind : AnswerKind) (stage : Stage) (x : Answer) → a.stage ≡ stage → Told a w x
      → IsTrue (are_acceptable s (on_answer_in kind a.seq w stage x).1)
  answer_in_fits answer_kind.StandingBy Preparing answer.Waiting f g =
      one s (event.Ready a.seq w.device) (waits_fits Preparing is_preparing answer.Waiting f g refl refl)
  answer_in_fits answer_kind.StandingBy Preparing _ f g = refl
  answer_in_fits answer_kind.StandingBy Decided answer.Waiting f g = refl
  answer_in_fits answer_kind.StandingBy Decided _ f g = refl
  answer_in_fits answer_kind.StandingBy (Cancelling r) answer.Waiting f g = refl
  answer_in_fits answer_kind.StandingBy (Cancelling r) _ f g = refl
  answer_in_fits answer_kind.Complete Preparing answer.Waiting f g = refl
  answer_in_fits answer_kind.Complete Preparing _ f g = refl
  answer_in_fits answer_kind.Complete Decided answer.Waiting f g =
      one s (event.Done a.seq w.device) (waits_fits Decided is_decided answer.Waiting f g refl refl)
  answer_in_fits answer_kind.Complete Decided _ f g = refl
  answer_in_fits answer_kind.Complete (Cancelling r) answer.Waiting f g = refl
  answer_in_fits answer_kind.Complete (Cancelling r) _ f g = refl
  answer_in_fits answer_kind.Cancelled Preparing answer.Waiting f g = refl
  answer_in_fits answer_kind.Cancelled Preparing _ f g = refl
  answer_in_fits answer_kind.Cancelled Decided answer.Waiting f g = refl
  answer_in_fits answer_kind.Cancelled Decided _ f g = refl
  answer_in_fits answer_kind.Cancelled (Cancelling r) answer.Waiting f g =
      one s (event.LetGo a.seq w.device) (waits_fits (Cancelling r) is_cancelling answer.Waiting f g refl refl)
  answer_in_fits answer_kind.Cancelled (Cancelling r) _ f g = refl
  answer_in_fits answer_kind.Abort Preparing answer.Waiting f g = abort_early_fits answer.Waiting f g refl refl
  answer_in_fits answer_kind.Abort Preparing answer.Ready f g = abort_early_fits answer.Ready f g refl refl
  answer_in_fits answer_kind.Abort Preparing _ f g = refl
  answer_in_fits answer_kind.Abort Decided answer.Waiting f g =
      one s (event.Failed a.seq w.device) (waits_fits Decided is_concluding answer.Waiting f g refl refl)
  answer_in_fits answer_kind.Abort Decided _ f g = refl
  answer_in_fits answer_kind.Abort (Cancelling r) answer.Waiting f g = abort_late_fits r f g
  answer_in_fits answer_kind.Abort (Cancelling r) _ f g = refl

-- the device that is found is the one that was looked for, with its answer
found_told : (d : ℕ) (a : Attempt) (w : DeviceAnswer) → device_answer a.answers d ≡ Some w → Told a w w.answer
found_told d a w g =
    let same : w.device ≡ d = same_number w.device d (found_passes (λ x. nat_eq x.device d) a.answers w g) in
    record {
      answer = subst (λ n. answer_of a.answers n ≡ Some w.answer) (sym same)
          (ap (λ (o : Option DeviceAnswer). option_map (λ x. x.answer) o) g);
      device = subst (λ n. device_answer a.answers n ≡ Some w) (sym same) g;
      same = refl;
    }

release_of_fits : (s : ShowState) (d : ℕ) (a : Attempt) → attempt_of_device s.live d ≡ Some a
    → IsTrue (are_acceptable s (on_release_of d a).1)
release_of_fits s d a e = by (device_answer a.answers d) refl
  where
    by : (o : Option DeviceAnswer) → device_answer a.answers d ≡ o
        → IsTrue (are_acceptable s
        (option_map_or (λ x. on_release_in a.seq x a.stage x.answer) o (refused_with code.NotLive)).1)
    by None g = refl
    by (Some w) g = release_in_fits s (is_of_device d) a w e a.stage w.answer refl (found_told d a w g)

answer_to_fits : (s : ShowState) (q d : ℕ) (a : Attempt) → attempt_of s.live q ≡ Some a → (kind : AnswerKind)
    → IsTrue (are_acceptable s (on_answer_to kind d a).1)
answer_to_fits s q d a e kind = by (device_answer a.answers d) refl
  where
    by : (o : Option DeviceAnswer) → device_answer a.answers d ≡ o
        → IsTrue (are_acceptable s
        (option_map_or (λ x. on_answer_in kind a.seq x a.stage x.answer) o (refused_with code.NotPart)).1)
    by None g = refl
    by (Some w) g = answer_in_fits s (has_number q) a w e kind a.stage w.answer refl (found_told d a w g)

release_fits : (s : ShowState) (d : ℕ) → IsTrue (are_acceptable s (on_release s d).1)
release_fits s d = by (has_device s.show d) (attempt_of_device s.live d) refl
  where
    by : (b : Bool) (o : Option Attempt) → attempt_of_device s.live d ≡ o
        → IsTrue (are_acceptable s (if not b then refused_with code.NoMethod else option_map_or (on_release_of d) o
        (refused_with code.NotLive)).1)
    by false o e = refl
    by true None e = refl
    by true (Some a) e = release_of_fits s d a e

answer_fits : (s : ShowState) (from : ℕ) (kind : AnswerKind) (d q : ℕ)
    → IsTrue (are_acceptable s (on_answer s from kind d q).1)
answer_fits s from kind d q = by (has_device s.show d) (is_from_another s d from) (nat_lt s.last_seq q)
    (attempt_of s.live q) refl
  where
    by : (b p l : Bool) (o : Option Attempt) → attempt_of s.live q ≡ o
        → IsTrue (are_acceptable s (if not b then refused_with code.NoMethod else if p then refused_with code.WrongPort
        else if l
        then refused_with code.Early else option_map_or (on_answer_to kind d) o (refused_with code.Stale)).1)
    by false p l o e = refl
    by true true l o e = refl
    by true false true o e = refl
    by true false false None e = refl
    by true false false (Some a) e = answer_to_fits s q d a e kind

-- ---- the situations of devices

pub each-has-a-situation : EachHasASituation
each-has-a-situation s h = all_from (λ a. list_all (may_be_in a.stage) a.answers)
    (λ a. list_all (has_situation a.stage) a.answers) s.live
    (λ a k. all_from (may_be_in a.stage) (has_situation a.stage) a.answers
    (λ x m. (both (is_known_in a.stage x.answer) (not (is_required x && is_excused x.answer)) m).0) k)
    (sound_of s h).stand

-- ---- all commands

pub judgement_of-acceptable : (s : ShowState) (now from : ℕ) (c : Command) → IsTrue (is_state s) → IsTrue (is_fit c)
    → IsTrue (are_acceptable s (judgement_of s now from c).1)
judgement_of-acceptable s now from command.Status h fit = refl
judgement_of-acceptable s now from (command.AddDevice d port) h fit = add_device_fits s d port fit
judgement_of-acceptable s now from (command.AddCue c parts) h fit = add_cue_fits s c parts fit
judgement_of-acceptable s now from (command.Standby c) h fit = standby_fits s now c (rules_of s h)
judgement_of-acceptable s now from (command.Go c) h fit = go_fits s c
judgement_of-acceptable s now from (command.Cancel c) h fit = cancel_fits s c
judgement_of-acceptable s now from (command.Goto c) h fit = goto_fits s c
judgement_of-acceptable s now from (command.RemoveCue c) h fit = remove_cue_fits s c
judgement_of-acceptable s now from (command.Reply kind d q) h fit = answer_fits s from kind d q
judgement_of-acceptable s now from (command.Release d) h fit = release_fits s d
judgement_of-acceptable s now from (command.RemoveDevice d) h fit = remove_device_fits s d
judgement_of-acceptable s now from (command.Bad c) h fit = refl

-- what holds of a result by one fact holds by another that follows
pub if_ok_from : {A E : Type 0} (P Q : A → Type 0) (r : Result A E) → ((x : A) → P x → Q x) → IfOk r P → IfOk r Q
if_ok_from P Q (Ok x) f h = f x h
if_ok_from P Q (Err e) f h = h
