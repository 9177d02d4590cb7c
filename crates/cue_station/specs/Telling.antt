-- How attempts ended, by the events of the store. The oldest event stands first.
use Rattle.std.specs.Prelude.{ℕ, Bool, true, false, not, if◌then◌else◌, List, take, filter, map, reverse}
use Rattle.std.specs.Prelude.{Option, None, Some, find, is_some, nat_eq}
use Rattle.std.specs.List.{filter_map, list_any}
use Rattle.std.specs.Option.{option_map, option_and_then}
use Rattle.cue_exchange.specs.Live.{attempt_of}
use Rattle.cue_exchange.specs.declared.attempt.Outcome.{Outcome}
use Rattle.cue_exchange.specs.declared.attempt.Outcome.TheVariants as outcome
use Rattle.cue_exchange.specs.declared.attempt.Reason.{Reason}
use Rattle.cue_core.specs.Events.{is_cancel_of, is_start_of}
use Rattle.cue_core.specs.declared.event.Ended.{Ended}
use Rattle.cue_core.specs.declared.event.Event.{Event}
use Rattle.cue_core.specs.declared.event.Event.TheVariants as event
use Rattle.cue_station.specs.declared.heard.Copied.{Copied}
use Rattle.cue_station.specs.declared.limits.TheConstants.{MAX_TOLD}
use Rattle.cue_view.specs.declared.view.Told.{Told}

-- ---- one attempt

-- the cue of a start
abbrev pub cue_in : Event → Option (List ℕ)
cue_in (event.Start p c t) = Some c
cue_in _ = None

-- the cue at which q started; none if its start is not among the events
abbrev pub cue_of_start : ℕ → List Event → Option (List ℕ)
cue_of_start q es = option_and_then cue_in (find (is_start_of q) es)

-- the reason of a cancel
abbrev pub reason_in : Event → Option Reason
reason_in (event.Cancel p r) = Some r
reason_in _ = None

-- why q was given up
abbrev pub reason_of : ℕ → List Event → Option Reason
reason_of q es = option_and_then reason_in (find (is_cancel_of q) es)

-- the device that fails in q
abbrev pub device_failing : ℕ → Event → Option ℕ
device_failing q (event.Failed p d) = if nat_eq p q then Some d else None
device_failing q _ = None

-- the devices that failed in q
abbrev pub failed_in : ℕ → List Event → List ℕ
failed_in q es = filter_map (device_failing q) es

-- the device that is excused in q
abbrev pub device_excused : ℕ → Event → Option ℕ
device_excused q (event.Excuse p d) = if nat_eq p q then Some d else None
device_excused q _ = None

-- the devices that were excused in q
abbrev pub excused_in : ℕ → List Event → List ℕ
excused_in q es = filter_map (device_excused q) es

-- what is told of an attempt that ended so
abbrev pub told_of : List Event → Ended → Told
told_of es e =
    record {
      seq = e.seq;
      cue = cue_of_start e.seq es;
      outcome = e.outcome;
      reason = reason_of e.seq es;
      failed = failed_in e.seq es;
      excused = excused_in e.seq es;
    }

-- LAST: the attempt that ended last, if one has
abbrev pub last_in : Copied → Option Told
last_in c = option_map (told_of c.events.items) c.state.ended

-- ---- the attempts before it

-- how q ended: given up if it was cancelled; else failed if a device did
abbrev pub outcome_by : Bool → Bool → Outcome
outcome_by true failed = outcome.Cancelled
outcome_by false true = outcome.Failed
outcome_by false false = outcome.Complete

-- a device failed in q
abbrev pub has_failed : ℕ → List Event → Bool
has_failed q es = list_any (λ e. is_some (device_failing q e)) es

abbrev pub outcome_in : ℕ → List Event → Outcome
outcome_in q es = outcome_by (list_any (is_cancel_of q) es) (has_failed q es)

-- the number that starts
abbrev pub number_started : Event → Option ℕ
number_started (event.Start q c t) = Some q
number_started _ = None

-- the numbers that started, the newest first
abbrev pub started_in : List Event → List ℕ
started_in es = filter_map number_started (reverse es)

-- those that have ended, the newest first
abbrev pub ended_in : Copied → List ℕ
ended_in c = filter (λ q. not (is_some (attempt_of c.state.live q))) (started_in c.events.items)

abbrev pub end_of : List Event → ℕ → Ended
end_of es q = record { seq = q; outcome = outcome_in q es }

-- the last attempts that started among the events and have ended
abbrev pub past_in : Copied → List Told
past_in c = map (λ q. told_of c.events.items (end_of c.events.items q)) (take MAX_TOLD (ended_in c))
