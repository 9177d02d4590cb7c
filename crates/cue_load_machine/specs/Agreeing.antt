-- Whether a status speaks of a state.
use Rattle.std.specs.Prelude.{ℕ, ℤ, pos, ◌-◌, ◌^◌, min, Bool, true, false, ◌&&◌, if◌then◌else◌, List, [], length, map}
use Rattle.std.specs.Prelude.{Option, Some, None}
use Rattle.std.specs.Ordering.{int_eq}
use Rattle.cue_show.specs.Number.{same_text}
use Rattle.cue_exchange.specs.Outcomes.{outcome_number}
use Rattle.cue_core.specs.declared.event.Ended.{Ended}
use Rattle.cue_core.specs.State.{ShowState}
use Rattle.cue_desk.specs.declared.replying.Status.{Status}
use Rattle.cue_show.specs.Show.{ShowLists}

-- it says this number
abbrev pub is_number : ℤ → ℕ → Bool
is_number said n = int_eq said (pos n)

-- it names this place, or none if there is none
abbrev pub is_place : Option (List ℕ) → Option (List ℕ) → Bool
is_place (Some said) (Some place) = same_text said place
is_place (Some said) None = false
is_place None (Some place) = false
is_place None None = true

-- it names this attempt as the one that ended last, with its outcome; 0 and 0 before the first
abbrev pub is_ended : Status → Option Ended → Bool
is_ended status None = is_number status.ended 0 && is_number status.outcome 0
is_ended status (Some e) = is_number status.ended e.seq && is_number status.outcome (outcome_number e.outcome)

-- how many attempts are live
abbrev pub live_in : ShowState → ℕ
live_in s = min (length s.live) (2 ^ 32 - 1)

-- the last number, the place, how many are live, and what ended last, and how, are those of the state
abbrev pub agrees : Status → ShowState → Bool
agrees status s =
    is_number status.last s.last_seq
    && (is_place status.place s.show.place && (is_number status.live (live_in s) && is_ended status s.ended))

-- the show of the state that is the one which the controller serves
abbrev pub show_in : Status → ShowState → Option ShowLists
show_in status s = if agrees status s then Some s.show else None

-- the cues that are live there; they are known only of that state
abbrev pub live_cues : Status → ShowState → List (List ℕ)
live_cues status s = if agrees status s then map (λ a. a.cue) s.live else []
