-- What forming a store, and opening one, do to its two disks, and why they are refused: the same in each layer above.
use Rattle.std.specs.Prelude.{◌≡◌, false, Option, Some, IfSome, IfNone}
use Rattle.cue_disk.specs.declared.disk.Disk.{Ghosts}
use Rattle.cue_snap.specs.Disks.{Forms, Opens}
use Rattle.cue_core.specs.State.{empty_state}
use Rattle.cue_keeper.specs.declared.fault.StoreFault.{StoreFault}
use Rattle.cue_keeper.specs.declared.fault.StoreFault.TheVariants as store
use Rattle.cue_keeper.specs.declared.keeper.Keeper.{Keeper}
use Rattle.cue_keeper.specs.Observed.{state_of, is_broken, generation_of, count_of}
use Rattle.cue_keeper.specs.Refusals.{HasOtherVersion, StandsForNone}
use Rattle.cue_keeper.specs.Stands.{StandsAs, first_area}

-- a store is not formed with one of these faults alone
abbrev pub IsOfForming : StoreFault → Type 0
IsOfForming store.NotEmpty = Unit {0}
IsOfForming store.Unformed = ⊥
IsOfForming store.Damaged = ⊥
IsOfForming store.Version = ⊥
IsOfForming store.Malformed = ⊥
IsOfForming store.Full = ⊥
IsOfForming store.Exhausted = ⊥
IsOfForming store.Memory = Unit {0}
IsOfForming store.Disk = Unit {0}

-- and not opened with one of these
abbrev pub IsOfOpening : StoreFault → Type 0
IsOfOpening store.NotEmpty = ⊥
IsOfOpening store.Unformed = Unit {0}
IsOfOpening store.Damaged = Unit {0}
IsOfOpening store.Version = Unit {0}
IsOfOpening store.Malformed = Unit {0}
IsOfOpening store.Full = ⊥
IsOfOpening store.Exhausted = ⊥
IsOfOpening store.Memory = Unit {0}
IsOfOpening store.Disk = Unit {0}

-- Two disks without areas become a store for the state before the first event.
pub record FormsStore {D : Type 0} (disk : Ghosts D) (first second new_first new_second : D)
    (refused : Option StoreFault) : Type 0 where
  pub pair : Forms disk store.NotEmpty store.Disk first_area first second new_first new_second refused
  -- after Ok whatever a stop leaves stands for that state
  pub stands :
      disk.is_honest first
      → disk.is_honest second
      → IfNone refused (StandsAs (disk.held new_first) (disk.held new_second) empty_state)
  -- no device is called if memory runs out
  pub memory : refused ≡ Some store.Memory → (new_first ≡ first) × (new_second ≡ second)
  pub no_other : IfSome refused IsOfForming

-- Two disks are opened as a store, and nothing is written; each refusal has its reason.
pub record OpensStore {D : Type 0} (disk : Ghosts D) (first second new_first new_second : D)
    (refused : Option StoreFault) : Type 0 where
  pub pair : Opens disk store.Damaged store.Unformed store.Disk first second new_first new_second refused
  pub version :
      disk.is_honest first
      → disk.is_honest second
      → refused ≡ Some store.Version
      → HasOtherVersion (disk.held first).bytes (disk.held second).bytes
  pub malformed :
      disk.is_honest first
      → disk.is_honest second
      → refused ≡ Some store.Malformed
      → StandsForNone (disk.held first).bytes (disk.held second).bytes
  pub no_other : IfSome refused IsOfOpening

-- The keeper of a store that was just formed works, and has the state before the first event.
pub record IsNew {D : Type 0} {disk : Ghosts D} (keeper : Keeper D disk) : Type 0 where
  pub state : state_of keeper ≡ empty_state
  pub works : is_broken keeper ≡ false
  pub generation : generation_of keeper ≡ 1
  pub count : count_of keeper ≡ 0
