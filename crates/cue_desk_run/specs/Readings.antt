-- What a reading of the store is heard as.
use Rattle.std.specs.Prelude.{◌≡◌, ℕ, List, Result, Ok, Err, Option, None, Some}
use Rattle.std.specs.Option.{option_map}
use Rattle.cue_desk.specs.declared.stamps.Stamps.{Stamps}
use Rattle.cue_desk.specs.Readings.{Holds}
use Rattle.cue_copies.specs.declared.reading.Found.{Found}
use Rattle.cue_copies.specs.declared.reading.Found.TheVariants as found
use Rattle.cue_core.specs.State.{ShowState}
use Rattle.cue_core.specs.declared.event.Event.{Event}
use Rattle.cue_disk.specs.declared.file.FileFault.{FileFault}
use Rattle.cue_disk.specs.declared.file.FileFault.TheVariants as file
use Rattle.cue_keeper.specs.Observed.{state_of}
use Rattle.cue_keeper.specs.declared.fault.StoreFault.{StoreFault}
use Rattle.cue_keeper.specs.declared.fault.StoreFault.TheVariants as store
use Rattle.cue_station.specs.declared.heard.Copied.{Copied}
use Rattle.cue_station.specs.declared.heard.Heard.{Heard}
use Rattle.cue_station.specs.declared.heard.Heard.TheVariants as heard
use Rattle.cue_desk_run.specs.declared.reading.Store.{Store}
use Rattle.cue_view.specs.declared.view.Trouble.{Trouble}
use Rattle.cue_view.specs.declared.view.Trouble.TheVariants as trouble

-- why a file cannot be opened
abbrev pub trouble_of : FileFault → Trouble
trouble_of file.NotFound = trouble.Missing
trouble_of (file.Io why) = trouble.Refused

-- why a store is refused
abbrev pub refusal_of : StoreFault → Trouble
refusal_of store.Memory = trouble.Memory
refusal_of _ = trouble.Refused

-- the copy of a store that stands for the state, with the events, whose reading was begun at the moment
pub record IsCopyOf (begun : ℕ) (s : ShowState) (events : List Event) (c : Copied) : Type 0 where
  pub begun_then : c.begun ≡ begun
  pub stands_for : c.state ≡ s
  pub tells : c.events.items ≡ events

-- that copy is heard; or that it cannot be read, for want of memory
abbrev pub IsCopy : ℕ → ShowState → List Event → Heard → Type 0
IsCopy begun s events (heard.Copied c) = IsCopyOf begun s events c
IsCopy begun s events (heard.Unread why) = why ≡ trouble.Memory
IsCopy begun s events _ = ⊥

-- Only what was read whole is heard as a copy, and only what was found to be the same is heard as the same, each of the
-- moment at which its reading was begun. All else is heard as what cannot be read, and why.
abbrev pub IsHeard : ℕ → Result Found Trouble → Heard → Type 0
IsHeard begun (Ok (found.Whole copies keeper events)) h = IsCopy begun (state_of keeper) events.items h
IsHeard begun (Ok found.Same) h = h ≡ heard.Same begun
IsHeard begun (Ok (found.Refused fault)) h = h ≡ heard.Unread (refusal_of fault)
IsHeard begun (Ok found.Changing) h = h ≡ heard.Unread trouble.Changing
IsHeard begun (Err why) h = h ≡ heard.Unread why

-- what is heard of the store stands for this moment
abbrev pub IsOf : ℕ → Heard → Type 0
IsOf begun (heard.Copied c) = c.begun ≡ begun
IsOf begun (heard.Same at) = at ≡ begun
IsOf begun (heard.Unread why) = Unit {0}
IsOf begun _ = ⊥

-- nothing was read yet
pub record IsUnread (s : Store) : Type 0 where
  pub seen : s.seen ≡ None
  pub last : s.last ≡ None

-- what was read, once the system had said something of the files, is what they still hold by what it says now
abbrev pub StillHolds : Option (ℕ × Stamps) → Option Stamps → Type 0
StillHolds (Some p) (Some now) = Holds p.1 p.0 now
StillHolds (Some p) None = ⊥
StillHolds None now = ⊥

-- what is kept of the files by what was heard of them
abbrev pub seen_by : Heard → ℕ → Option Stamps → Option (ℕ × Stamps)
seen_by (heard.Copied c) wall stamps = option_map (λ (s : Stamps). (wall, s)) stamps
seen_by (heard.Same at) wall stamps = option_map (λ (s : Stamps). (wall, s)) stamps
seen_by _ wall stamps = None

-- what could not be read is read again, whatever the system says of the files
abbrev pub IsReadAgain : Heard → Option (ℕ × Stamps) → Type 0
IsReadAgain (heard.Unread why) seen = seen ≡ None
IsReadAgain _ seen = Unit {0}
