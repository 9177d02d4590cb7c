-- What is read of a store that another process may serve.
use Rattle.std.specs.Prelude.{◌≡◌, ◌⊎◌, ◌-◌, ◌++◌, ℕ, Bool, true, false, List, length, take, replicate, Option, Some}
use Rattle.std.specs.Prelude.{None}
use Rattle.cue_disk.specs.Disk.{Contents}
use Rattle.cue_log.specs.declared.area.TheConstants.{MAX_AREA, HEAD_LEN}
use Rattle.cue_snap.specs.Pair.{IsSpoiled, NeitherHas}
use Rattle.cue_core.specs.State.{ShowState}
use Rattle.cue_keeper.specs.Stands.{Stands}
use Rattle.cue_keeper.specs.Refusals.{HasOtherVersion, StandsForNone}
use Rattle.cue_engine.specs.Recovery.{CannotBeRecovered}
use Rattle.cue_keeper.specs.declared.fault.StoreFault.{StoreFault}
use Rattle.cue_keeper.specs.declared.fault.StoreFault.TheVariants as store

-- a store that is whole can look like that while it is turned over
abbrev pub is_read_again : StoreFault → Bool
is_read_again store.NotEmpty = false
is_read_again store.Unformed = true
is_read_again store.Damaged = true
is_read_again store.Version = true
is_read_again store.Malformed = true
is_read_again store.Full = false
is_read_again store.Exhausted = false
is_read_again store.Memory = false
is_read_again store.Disk = false

-- a disk in memory fails only if memory runs out
abbrev pub fault_in_memory : StoreFault → StoreFault
fault_in_memory store.Disk = store.Memory
fault_in_memory store.NotEmpty = store.NotEmpty
fault_in_memory store.Unformed = store.Unformed
fault_in_memory store.Damaged = store.Damaged
fault_in_memory store.Version = store.Version
fault_in_memory store.Malformed = store.Malformed
fault_in_memory store.Full = store.Full
fault_in_memory store.Exhausted = store.Exhausted
fault_in_memory store.Memory = store.Memory

-- what a call of a disk, or of memory, fails as
abbrev pub IsOfMachine : StoreFault → Type 0
IsOfMachine fault = (fault ≡ store.Disk) ⊎ (fault ≡ store.Memory)

-- why a store of the two is not opened; if memory or a device failed, nothing is said of them
abbrev pub CannotBeOpened : StoreFault → List ℕ → List ℕ → Type 0
CannotBeOpened store.NotEmpty x y = ⊥
CannotBeOpened store.Unformed x y = NeitherHas x y
CannotBeOpened store.Damaged x y = IsSpoiled x y
CannotBeOpened store.Version x y = HasOtherVersion x y
CannotBeOpened store.Malformed x y = StandsForNone x y
CannotBeOpened store.Full x y = ⊥
CannotBeOpened store.Exhausted x y = ⊥
CannotBeOpened store.Memory x y = Unit {0}
CannotBeOpened store.Disk x y = Unit {0}

-- The two stand for a state.
pub record StandForSome (x y : List ℕ) : Type 0 where
  pub state : ShowState
  pub stand : Stands x y state

-- it is said why the two cannot be recovered, or none is said and they stand for a state
abbrev pub IsRefusalOf : Option StoreFault → List ℕ → List ℕ → Type 0
IsRefusalOf None x y = StandForSome x y
IsRefusalOf (Some fault) x y = CannotBeRecovered fault x y

-- a copy of what a disk holds: as much of it as an area may have
abbrev pub copy_of : Contents → List ℕ
copy_of held = take MAX_AREA held.bytes

-- the bytes are the front of these
abbrev pub IsFront : List ℕ → List ℕ → Type 0
IsFront bytes whole = bytes ≡ take (length bytes) whole

-- the first so many bytes, with zeros for what is missing
unfoldable pub filled : ℕ → List ℕ → List ℕ
filled n bytes = take n bytes ++ replicate (n - length bytes) 0

-- the front of what a disk holds, as much of it as says which area it has
abbrev pub head_of : Contents → List ℕ
head_of held = filled HEAD_LEN held.bytes
