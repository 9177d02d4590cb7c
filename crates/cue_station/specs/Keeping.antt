-- What is kept of what went wrong, until somebody says that it was seen.
use Rattle.std.specs.Prelude.{ℕ, Bool, true, false, not, ◌&&◌, ◌||◌, if◌then◌else◌, List, [], ◌∷◌, ◌++◌, take, filter}
use Rattle.std.specs.Prelude.{map}
use Rattle.std.specs.Prelude.{Option, None, Some, is_some, nat_eq, nat_le}
use Rattle.std.specs.List.{flat_map, list_any}
use Rattle.std.specs.Option.{option_to_list}
use Rattle.cue_exchange.specs.declared.attempt.Answer.{Answer}
use Rattle.cue_exchange.specs.declared.attempt.Answer.TheVariants as answer
use Rattle.cue_exchange.specs.declared.attempt.Attempt.{Attempt}
use Rattle.cue_exchange.specs.declared.attempt.DeviceAnswer.{DeviceAnswer}
use Rattle.cue_exchange.specs.declared.attempt.Outcome.{Outcome}
use Rattle.cue_exchange.specs.declared.attempt.Outcome.TheVariants as outcome
use Rattle.cue_exchange.specs.declared.attempt.Reason.{Reason}
use Rattle.cue_exchange.specs.declared.attempt.Stage.{Stage}
use Rattle.cue_exchange.specs.declared.attempt.Stage.TheVariants as stage
use Rattle.cue_core.specs.declared.event.Ended.{Ended}
use Rattle.cue_core.specs.declared.event.Event.{Event}
use Rattle.cue_view.specs.declared.view.Told.{Told}
use Rattle.cue_station.specs.declared.heard.Copied.{Copied}
use Rattle.cue_station.specs.declared.heard.Heard.{Heard}
use Rattle.cue_station.specs.declared.heard.Heard.TheVariants as heard
use Rattle.cue_station.specs.declared.limits.TheConstants.{KEPT_FAILURES}
use Rattle.cue_station.specs.declared.memory.Reading.{Reading}
use Rattle.cue_station.specs.Turns.{Turn}
use Rattle.cue_station.specs.Alarms.{acknowledged_of, is_acknowledged}
use Rattle.cue_station.specs.Faults.{failed_before, is_failed, is_failing, is_fault}
use Rattle.cue_station.specs.Reading.{reading_of}
use Rattle.cue_station.specs.Telling.{end_of, reason_of, told_of}

-- ---- what a copy tells of a live attempt

-- the device is excused
abbrev pub is_excused : Answer → Bool
is_excused answer.Excused = true
is_excused _ = false

-- the devices that gave such an answer
abbrev pub devices_with : (Answer → Bool) → List DeviceAnswer → List ℕ
devices_with test answers =
    map (λ (x : DeviceAnswer). x.device) (filter (λ (x : DeviceAnswer). test x.answer) answers)

-- it has failed if it was given, else it is given up
abbrev pub live_outcome : Stage → Outcome
live_outcome stage.Decided = outcome.Failed
live_outcome (stage.Cancelling r) = outcome.Cancelled
live_outcome stage.Preparing = outcome.Cancelled

-- why it is given up
abbrev pub live_reason : Stage → Option Reason
live_reason (stage.Cancelling r) = Some r
live_reason stage.Decided = None
live_reason stage.Preparing = None

-- what the attempt itself tells, whose cue is known
abbrev pub told_live : Attempt → Told
told_live a =
    record {
      seq = a.seq;
      cue = Some a.cue;
      outcome = live_outcome a.stage;
      reason = live_reason a.stage;
      failed = devices_with is_failed a.answers;
      excused = devices_with is_excused a.answers;
    }

-- the same, if something went wrong in it
abbrev pub told_if_failing : Attempt → List Told
told_if_failing a = if is_failing a then told_live a ∷ [] else []

-- ---- what a copy tells of an attempt that has ended

-- of the one that ended last, if something went wrong in it
abbrev pub told_last : List Event → Option Ended → Option Told
told_last es None = None
told_last es (Some e) = if is_fault e.outcome (reason_of e.seq es) then Some (told_of es e) else None

-- of those of the past, but for the last one
abbrev pub told_before : Copied → List Told
told_before c = map (λ q. told_of c.events.items (end_of c.events.items q)) (failed_before c)

-- the last one, though its start is not among the events any more, and those before
abbrev pub told_ended : Copied → List Told
told_ended c = option_to_list (told_last c.events.items c.state.ended) ++ told_before c

-- What a copy tells of each attempt in which something went wrong: those that are live stand first. An attempt has the
-- same number while it is live and once it has ended.
abbrev pub told_now : Copied → List Told
told_now c = flat_map told_if_failing c.state.live ++ told_ended c

-- what the newest copy tells
abbrev pub told_by : Option Reading → List Told
told_by None = []
told_by (Some r) = told_now r.copy

-- ---- what is kept

-- one of them has the number q
abbrev pub has_number : ℕ → List Told → Bool
has_number q all = list_any (λ (t : Told). nat_eq q t.seq) all

-- it is what is told of the attempt q, and its cue is known
abbrev pub knows : ℕ → Told → Bool
knows q t = nat_eq q t.seq && is_some t.cue

-- Nobody has said that he saw it, and its cue is known, or nothing is kept of it yet: a copy that no longer knows the
-- cue never replaces what is kept.
unfoldable pub is_fresh : List ℕ → List Told → Told → Bool
is_fresh seen kept t = not (is_acknowledged seen t.seq) && (is_some t.cue || not (has_number t.seq kept))

-- a number above the newest of the copy is of another store
abbrev pub is_of_store : ℕ → Option Reading → Bool
is_of_store q None = true
is_of_store q (Some r) = nat_le q r.copy.state.last_seq

-- nobody has said that he saw it, it is of this store, and the newest copy tells nothing better of it
unfoldable pub stays : List ℕ → Option Reading → List Told → Told → Bool
stays seen r fresh t = not (is_acknowledged seen t.seq) && (is_of_store t.seq r && not (has_number t.seq fresh))

-- what the newest copy tells, and what stays beside it
abbrev pub kept_beside : List ℕ → Option Reading → List Told → List Told → List Told
kept_beside seen r fresh old = fresh ++ take KEPT_FAILURES (filter (stays seen r fresh) old)

-- what is kept, once it is known what was seen and what the newest copy is
abbrev pub failed_after : List ℕ → Option Reading → List Told → List Told
failed_after seen r old = kept_beside seen r (filter (is_fresh seen old) (told_by r)) old

-- nothing is kept of the attempt
abbrev pub is_other : List Told → Told → Bool
is_other old t = not (has_number t.seq old)

-- what was kept, with what was kept elsewhere of other attempts
abbrev pub kept_too : List Told → List Told → List Told
kept_too more old = old ++ filter (is_other old) more

-- the same, if that was heard
abbrev pub with_kept : Heard → List Told → List Told
with_kept (heard.Kept k) old = kept_too k.failed.items old
with_kept _ old = old

-- what went wrong, and nobody has said that he saw it
abbrev pub failed_of : List Turn → List Told
failed_of [] = []
failed_of (t ∷ past) =
    failed_after (acknowledged_of (t ∷ past)) (reading_of (t ∷ past)) (with_kept t.input.heard (failed_of past))

-- ---- what is shown of it, and handed on

-- nothing is shown before a copy was read
abbrev pub shown_failures : Option Reading → List Told → List Told
shown_failures None kept = []
shown_failures (Some r) kept = kept

-- the numbers of the attempts
abbrev pub numbers_of : List Told → List ℕ
numbers_of all = map (λ (t : Told). t.seq) all

-- the attempts that were seen: 0 is the number of none
abbrev pub numbers_seen : List ℕ → List ℕ
numbers_seen seen = filter (λ q. not (nat_eq q 0)) seen
