-- Waiting: which devices of an attempt are still to answer, and what ends that.
use Rattle.std.specs.Prelude.{◌≡◌, ℕ, ◌+◌, ◌≤◌, Bool, true, false, not, ◌&&◌, ◌||◌, if◌then◌else◌, List, [], ◌∷◌, ◌++◌}
use Rattle.std.specs.Prelude.{filter, length, None, Some, nat_eq, nat_le, IsTrue}
use Rattle.std.specs.List.{list_any}
use Rattle.std.specs.Option.{option_map_or}
use Rattle.cue_show.specs.Devices.{is_among}
use Rattle.cue_exchange.specs.declared.attempt.Answer.{Answer}
use Rattle.cue_exchange.specs.declared.attempt.Answer.TheVariants.{Failed}
use Rattle.cue_exchange.specs.declared.attempt.Attempt.{Attempt}
use Rattle.cue_exchange.specs.declared.attempt.Outcome.{Outcome}
use Rattle.cue_exchange.specs.declared.attempt.Outcome.TheVariants as outcome
use Rattle.cue_exchange.specs.declared.attempt.Stage.{Stage}
use Rattle.cue_exchange.specs.declared.attempt.Stage.TheVariants.{Preparing, Decided, Cancelling}
use Rattle.cue_exchange.specs.Answers.{devices_of, is_cancelling, is_concluding, waits}
use Rattle.cue_exchange.specs.Live.{attempt_of}
use Rattle.cue_core.specs.declared.command.AnswerKind.{AnswerKind}
use Rattle.cue_core.specs.declared.command.AnswerKind.TheVariants.{Complete, Cancelled, Abort}
use Rattle.cue_core.specs.declared.event.Event.{Event}
use Rattle.cue_core.specs.declared.event.Event.TheVariants as event
use Rattle.cue_core.specs.State.{ShowState}
use Rattle.cue_core.specs.Steps.{after_events}

-- ---- who is awaited

-- q was given or given up: it has started, and is not Preparing any more; it may have ended
abbrev pub is_settled : ShowState → ℕ → Bool
is_settled s q = nat_le q s.last_seq && option_map_or (λ a. is_concluding a.stage) (attempt_of s.live q) true

-- q is live, and is still prepared
pub record IsPreparing (q : ℕ) (s : ShowState) : Type 0 where
  pub attempt : Attempt
  pub found : attempt_of s.live q ≡ Some attempt
  pub stage : attempt.stage ≡ Preparing

-- the devices of q that are still to answer, in part order; none once it has ended
abbrev pub awaited : ShowState → ℕ → List ℕ
awaited s q = option_map_or (λ a. devices_of (filter waits a.answers)) (attempt_of s.live q) []

-- the list without the device d
abbrev pub without : ℕ → List ℕ → List ℕ
without d ds = filter (λ e. not (nat_eq e d)) ds

-- In the new state q waits for nobody for whom it did not wait in the old one, and for no more devices; and it is
-- settled.
pub record WaitsForNoMore (q : ℕ) (old new : ShowState) : Type 0 where
  pub settled : IsTrue (is_settled new q)
  pub none_new : (d : ℕ) → IsTrue (is_among d (awaited new q)) → IsTrue (is_among d (awaited old q))
  pub number : length (awaited new q) ≤ length (awaited old q)

-- ---- an answer

-- an answer of this kind is one to the order of the stage
abbrev pub is_answer_in : Stage → AnswerKind → Bool
is_answer_in Decided Complete = true
is_answer_in Decided Abort = true
is_answer_in (Cancelling r) Cancelled = true
is_answer_in (Cancelling r) Abort = true
is_answer_in _ _ = false

-- the device could not go on
abbrev pub is_failed : Answer → Bool
is_failed Failed = true
is_failed _ = false

-- the event says that a device of q could not go on
abbrev pub is_failure_of : ℕ → Event → Bool
is_failure_of q (event.Failed p d) = nat_eq p q
is_failure_of q _ = false

-- some device of the attempt could not go on
abbrev pub has_failed : Attempt → Bool
has_failed a = list_any (λ x. is_failed x.answer) a.answers

-- the answer says that the device cannot go on
abbrev pub is_abort : AnswerKind → Bool
is_abort Abort = true
is_abort _ = false

-- How the attempt ends: cancelled, if it was given up; else complete, unless a device has failed, before or in what
-- came then.
abbrev pub outcome_with : Bool → Attempt → Outcome
outcome_with fails a =
    if is_cancelling a.stage then outcome.Cancelled
    else (if fails || has_failed a then outcome.Failed else outcome.Complete)

-- q is not live any more, and is the attempt that ended last, in this way
pub record HasEndedAs (q : ℕ) (how : Outcome) (s : ShowState) : Type 0 where
  pub gone : attempt_of s.live q ≡ None
  pub last : s.ended ≡ Some (record { seq = q; outcome = how })

-- The device d is awaited no more, each other one as before, so one less; and if it was the last, q has ended.
pub record EndsAWaiting (q d : ℕ) (how : Outcome) (old new : ShowState) : Type 0 where
  pub others : awaited new q ≡ without d (awaited old q)
  pub one_less : length (awaited old q) ≡ length (awaited new q) + 1
  pub last : awaited new q ≡ [] → HasEndedAs q how new

-- Among these events is the one with which q ended, and it ended so.
pub record EndsWithin (q : ℕ) (a : Attempt) (s : ShowState) (es : List Event) : Type 0 where
  pub before : List Event
  pub last : Event
  pub later : List Event
  pub split : es ≡ before ++ last ∷ later
  pub ended : HasEndedAs q (outcome_with (list_any (is_failure_of q) es) a) (after_events s (before ++ last ∷ []))
