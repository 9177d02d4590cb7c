-- What went wrong in attempts: a device failed, or the standby was lost and nobody gave it up.
use Rattle.std.specs.Prelude.{ℕ, Bool, true, false, not, ◌&&◌, if◌then◌else◌, List, take, filter, map}
use Rattle.std.specs.Prelude.{Option, None, Some, nat_eq}
use Rattle.std.specs.List.{list_any}
use Rattle.cue_exchange.specs.declared.attempt.Answer.{Answer}
use Rattle.cue_exchange.specs.declared.attempt.Answer.TheVariants as answer
use Rattle.cue_exchange.specs.declared.attempt.Attempt.{Attempt}
use Rattle.cue_exchange.specs.declared.attempt.DeviceAnswer.{DeviceAnswer}
use Rattle.cue_exchange.specs.declared.attempt.Outcome.{Outcome}
use Rattle.cue_exchange.specs.declared.attempt.Outcome.TheVariants as outcome
use Rattle.cue_exchange.specs.declared.attempt.Reason.{Reason}
use Rattle.cue_exchange.specs.declared.attempt.Reason.TheVariants as reason
use Rattle.cue_exchange.specs.declared.attempt.Stage.{Stage}
use Rattle.cue_exchange.specs.declared.attempt.Stage.TheVariants as stage
use Rattle.cue_core.specs.declared.event.Ended.{Ended}
use Rattle.cue_core.specs.declared.event.Event.{Event}
use Rattle.cue_station.specs.declared.heard.Copied.{Copied}
use Rattle.cue_station.specs.declared.limits.TheConstants.{MAX_TOLD}
use Rattle.cue_station.specs.Telling.{ended_in, outcome_in, reason_of}

-- a device gave the preparation up, or its ten seconds did: no operator, and no restart
abbrev pub is_lost_by : Reason → Bool
is_lost_by reason.Abort = true
is_lost_by reason.Deadline = true
is_lost_by reason.Operator = false
is_lost_by reason.Power = false
is_lost_by reason.Release = false

abbrev pub is_lost : Option Reason → Bool
is_lost None = false
is_lost (Some r) = is_lost_by r

-- ---- while it is live

-- the device cannot go on
abbrev pub is_failed : Answer → Bool
is_failed answer.Failed = true
is_failed _ = false

abbrev pub has_failed : List DeviceAnswer → Bool
has_failed answers = list_any (λ (x : DeviceAnswer). is_failed x.answer) answers

-- it was given and a device failed in it, or its standby is lost
abbrev pub is_failing_at : Stage → List DeviceAnswer → Bool
is_failing_at stage.Preparing answers = false
is_failing_at stage.Decided answers = has_failed answers
is_failing_at (stage.Cancelling r) answers = is_lost_by r

abbrev pub is_failing : Attempt → Bool
is_failing a = is_failing_at a.stage a.answers

abbrev pub failing_in : List Attempt → List ℕ
failing_in live = map (λ (a : Attempt). a.seq) (filter is_failing live)

-- ---- once it has ended

-- it failed, or its standby was lost
abbrev pub is_fault : Outcome → Option Reason → Bool
is_fault outcome.Failed why = true
is_fault outcome.Complete why = false
is_fault outcome.Cancelled why = is_lost why

abbrev pub is_fault_in : ℕ → List Event → Bool
is_fault_in q es = is_fault (outcome_in q es) (reason_of q es)

-- the attempt that ended last, if something went wrong in it
abbrev pub failed_last : List Event → Option Ended → Option ℕ
failed_last es None = None
failed_last es (Some e) = if is_fault e.outcome (reason_of e.seq es) then Some e.seq else None

abbrev pub is_number_of : ℕ → Option ℕ → Bool
is_number_of q None = false
is_number_of q (Some p) = nat_eq p q

-- something went wrong in it by the events, and it is not the last one
unfoldable pub is_earlier_fault : List Event → Option ℕ → ℕ → Bool
is_earlier_fault es last q = is_fault_in q es && not (is_number_of q last)

-- those of the past, but for the last one
abbrev pub failed_before : Copied → List ℕ
failed_before c =
    filter (is_earlier_fault c.events.items (failed_last c.events.items c.state.ended)) (take MAX_TOLD (ended_in c))
