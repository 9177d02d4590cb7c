-- The attempts that the log follows, and what an event makes of them.
use Rattle.std.specs.Prelude.{ℕ, ◌-◌, Bool, true, false, ◌&&◌, if◌then◌else◌, List, [], ◌∷◌, ◌++◌, filter, find, is_some, map, nat_eq}
use Rattle.std.specs.Prelude.{Option, Some, None}
use Rattle.std.specs.Option.{option_map}
use Rattle.cue_core.specs.State.{ShowState}
use Rattle.cue_core.specs.declared.event.Event.{Event}
use Rattle.cue_core.specs.declared.event.Event.TheVariants as event
use Rattle.cue_core.specs.declared.limits.TheConstants.{STANDBY_MS}
use Rattle.cue_exchange.specs.Answers.{is_decided}
use Rattle.cue_exchange.specs.Live.{attempt_of}
use Rattle.cue_exchange.specs.declared.attempt.Answer.{Answer}
use Rattle.cue_exchange.specs.declared.attempt.Answer.TheVariants as answer
use Rattle.cue_exchange.specs.declared.attempt.Attempt.{Attempt}
use Rattle.cue_exchange.specs.declared.attempt.DeviceAnswer.{DeviceAnswer}
use Rattle.cue_exchange.specs.declared.attempt.Reason.{Reason}
use Rattle.cue_exchange.specs.declared.attempt.Stage.{Stage}
use Rattle.cue_exchange.specs.declared.attempt.Stage.TheVariants as stage
use Rattle.cue_log_lines.specs.declared.listed.Cause.{Cause}
use Rattle.cue_log_lines.specs.declared.listed.Cause.TheVariants as cause
use Rattle.cue_log_lines.specs.declared.listed.Failure.{Failure}
use Rattle.cue_evening.specs.declared.course.Followed.{Followed}

-- the device has failed
abbrev pub has_failed : Answer → Bool
has_failed answer.Failed = true
has_failed _ = false

-- a device that has failed, for a cause that nobody saw
abbrev pub failure_of : DeviceAnswer → Failure
failure_of a = record { device = a.device; cause = cause.Unseen }

-- the devices that have failed by these answers
abbrev pub failures_in : List DeviceAnswer → List Failure
failures_in answers = map failure_of (filter (λ a. has_failed a.answer) answers)

-- an attempt that begins: its standby was ten seconds before its deadline
abbrev pub new_of : ℕ → List ℕ → ℕ → Followed
new_of seq cue deadline =
    record { seq = seq; cue = cue; since = deadline - STANDBY_MS; stage = stage.Preparing; failures = [] }

-- an attempt as a state has it
abbrev pub followed_of : Attempt → Followed
followed_of a = record {
  seq = a.seq;
  cue = a.cue;
  since = a.deadline - STANDBY_MS;
  stage = a.stage;
  failures = if is_decided a.stage then failures_in a.answers else [];
}

-- the attempt enters a stage, if it has this number
abbrev pub entering : ℕ → Stage → Followed → Followed
entering seq stage f = if nat_eq f.seq seq then record f { stage = stage } else f

-- a device of the attempt has failed, if the attempt has this number and was decided
abbrev pub failing : ℕ → Failure → Followed → Followed
failing seq failure f =
    if nat_eq f.seq seq && is_decided f.stage then record f { failures = f.failures ++ failure ∷ [] } else f

-- the attempts after an event; a device that fails by it fails for this cause
abbrev pub course_after : Event → Cause → List Followed → List Followed
course_after (event.Start seq cue deadline) why course = course ++ new_of seq cue deadline ∷ []
course_after (event.Go seq) why course = map (entering seq stage.Decided) course
course_after (event.Cancel seq reason) why course = map (entering seq (stage.Cancelling reason)) course
course_after (event.Failed seq device) why course = map (failing seq (record { device = device; cause = why })) course
course_after _ why course = course

-- the attempt that is given up by an event, and why
abbrev pub given_up : Event → Option (ℕ × Reason)
given_up (event.Cancel seq reason) = Some (seq, reason)
given_up _ = None

-- the cue of the attempt with this number
abbrev pub cue_of : ℕ → List Followed → Option (List ℕ)
cue_of seq course = option_map (λ f. f.cue) (find (λ f. nat_eq f.seq seq) course)

-- the attempt is live in the state
abbrev pub is_followed : ShowState → Followed → Bool
is_followed state f = is_some (attempt_of state.live f.seq)
