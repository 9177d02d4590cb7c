-- What is known of a device after readings of a store, one after the other. Readings overlap, and the same events come
-- again and again.
use Rattle.std.specs.Prelude.{◌≡◌, ℕ, Bool, true, not, ◌⊎◌, List, Option, None, Some}
use Rattle.std.specs.List.{fold, list_all, Contains}
use Rattle.cue_show.specs.Show.{ShowLists}
use Rattle.cue_core.specs.declared.event.Event.{Event}
use Rattle.cue_whereabouts.specs.Telling.{after_reading, ending, is_newer, last_part}
use Rattle.cue_whereabouts.specs.declared.last.End.{End}
use Rattle.cue_whereabouts.specs.Ending.{PartEnd}

-- a reading: the show, and the events that are told, the oldest first
pub record Reading : Type 0 where
  pub show : ShowLists
  pub events : List Event

-- what is known of the device d once the readings were heard, one after the other
abbrev pub after_readings : ℕ → Option PartEnd → List Reading → Option PartEnd
after_readings d known readings = fold (λ k r. after_reading r.show r.events d k) known readings

-- what ended is no newer than what is known
abbrev pub is_no_newer : Option PartEnd → Option (ℕ × End) → Bool
is_no_newer known None = true
is_no_newer known (Some ended) = not (is_newer ended.0 known)

-- no event of the reading ends a newer attempt of the device d than the one that is known
abbrev pub tells_no_newer : ℕ → Option PartEnd → Reading → Bool
tells_no_newer d known r = list_all (λ e. is_no_newer known (ending r.events d e)) r.events

-- no reading that was heard tells of a newer attempt of a device than the one that is known of it
abbrev pub NoneIsNewer : Type 0
NoneIsNewer =
    (d : ℕ) (known : Option PartEnd) (readings : List Reading)
    → list_all (tells_no_newer d (after_readings d known readings)) readings ≡ true

-- what is known is what was known before, or what an event of one of the readings tells
pub record IsTold (d : ℕ) (readings : List Reading) (known : Option PartEnd) : Type 0 where
  pub reading : Reading
  pub event : Event
  pub ended : ℕ × End
  pub is_heard : Contains readings reading
  pub is_event : Contains reading.events event
  pub ends : ending reading.events d event ≡ Some ended
  pub is : known ≡ Some (last_part reading.show reading.events d ended)

abbrev pub NothingIsMadeUp : Type 0
NothingIsMadeUp =
    (d : ℕ) (known : Option PartEnd) (readings : List Reading)
    → (after_readings d known readings ≡ known) ⊎ IsTold d readings (after_readings d known readings)

-- a reading that is heard again changes nothing
abbrev pub AgainIsNothing : Type 0
AgainIsNothing =
    (show : ShowLists) (events : List Event) (d : ℕ) (known : Option PartEnd)
    → after_reading show events d (after_reading show events d known) ≡ after_reading show events d known
