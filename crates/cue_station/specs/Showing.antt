-- What is drawn of a copy: the live attempts, each with the moment since which it is seen, and the stack.
use Rattle.std.specs.Prelude.{◌-◌, ◌+◌, min, ℕ, Bool, true, false, ◌&&◌, ◌||◌, if◌then◌else◌, List, [], ◌∷◌, map}
use Rattle.std.specs.Prelude.{find, Option, None, Some, is_some, nat_eq, nat_lt}
use Rattle.std.specs.Map.{keys_of}
use Rattle.std.specs.Option.{option_map, option_map_or, option_and_then}
use Rattle.cue_show.specs.Show.{ShowLists}
use Rattle.cue_exchange.specs.Answers.{is_decided, is_preparing}
use Rattle.cue_exchange.specs.Live.{attempt_of}
use Rattle.cue_exchange.specs.Steps.{can_go_now}
use Rattle.cue_exchange.specs.declared.attempt.Attempt.{Attempt}
use Rattle.cue_core.specs.Events.{is_start_of}
use Rattle.cue_core.specs.declared.event.Event.{Event}
use Rattle.cue_core.specs.declared.event.Event.TheVariants as event
use Rattle.cue_core.specs.declared.limits.TheConstants.{STANDBY_MS}
use Rattle.cue_station.specs.declared.memory.Reading.{Reading}
use Rattle.cue_station.specs.declared.memory.Seen.{Seen}
use Rattle.cue_view.specs.declared.view.LiveAttempt.{LiveAttempt}
use Rattle.cue_station.specs.Turns.{Turn}
use Rattle.cue_station.specs.Reading.{reading_of}

-- ---- since when

-- the copy has the attempt decided
abbrev pub has_given : ℕ → Option Reading → Bool
has_given q None = false
has_given q (Some r) = option_map_or (λ a. is_decided a.stage) (attempt_of r.copy.state.live q) false

-- the moment since which each copy had the attempt decided
abbrev pub given_since : ℕ → List Turn → Option ℕ
given_since q [] = None
given_since q (t ∷ past) =
    if has_given q (reading_of (t ∷ past)) then
    if is_some (given_since q past) then given_since q past else Some t.input.at else None

-- what the machine keeps of both
abbrev pub since_in : List Seen → ℕ → Option ℕ
since_in seen q = option_map (λ (s : Seen). s.since) (find (λ (s : Seen). nat_eq s.seq q) seen)

abbrev pub given_in : List Seen → ℕ → Option ℕ
given_in seen q = option_and_then (λ (s : Seen). s.given) (find (λ (s : Seen). nat_eq s.seq q) seen)

-- ---- the live attempts

-- its ten seconds are not over, by the wall's clock, nor by ours since it is seen
abbrev pub is_in_time : Option ℕ → ℕ → ℕ → Attempt → Bool
is_in_time None now wall a = false
is_in_time (Some since) now wall a = nat_lt wall a.deadline && nat_lt now (since + STANDBY_MS)

-- what is left of its ten seconds, by the clock that says less
abbrev pub left_of : Option ℕ → ℕ → ℕ → Attempt → ℕ
left_of None now wall a = 0
left_of (Some since) now wall a = min (a.deadline - wall) (STANDBY_MS - (now - since))

-- ---- whether a cue was given since

-- a cue is given
abbrev pub is_given : Event → Bool
is_given (event.Go q) = true
is_given _ = false

-- one event more: whether a cue was given since q was stood by
abbrev pub passed_by : ℕ → Event → Bool → Bool
passed_by q e old = if is_start_of q e then false else old || is_given e

abbrev pub passed_after : ℕ → List Event → Bool → Bool
passed_after q [] old = old
passed_after q (e ∷ es) old = passed_after q es (passed_by q e old)

-- A cue was given since q was stood by: after its start, or after the snapshot if that has swallowed the start.
abbrev pub is_passed : ℕ → List Event → Bool
is_passed q events = passed_after q events false

-- ---- the live attempts, as they are shown

-- An attempt as it is shown: as the copy has it, with what is left, whether GO can be given at the moment of the copy,
-- and whether a cue was given since it was stood by.
abbrev pub shown_attempt : Bool → (ℕ → Option ℕ) → (ℕ → Option ℕ) → List Event → ℕ → ℕ → Attempt → LiveAttempt
shown_attempt stands since given events now wall a =
    record {
      seq = a.seq;
      cue = a.cue;
      stage = a.stage;
      devices = a.answers;
      ready = stands && (can_go_now a && is_in_time (since a.seq) now wall a);
      left = left_of (since a.seq) now wall a;
      given = given a.seq;
      passed = is_preparing a.stage && is_passed a.seq events;
    }

-- each live attempt, in order
abbrev pub shown_live : Bool → (ℕ → Option ℕ) → (ℕ → Option ℕ) → List Event → ℕ → ℕ → List Attempt
    → List LiveAttempt
shown_live stands since given events now wall live = map (shown_attempt stands since given events now wall) live

-- ---- the stack

-- the whole stack: the numbers of its cues, in order
abbrev pub stack_of : ShowLists → List (List ℕ)
stack_of s = keys_of s.cues
