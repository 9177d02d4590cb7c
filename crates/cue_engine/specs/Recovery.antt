-- What a recovery leaves on two disks, and why it is refused.
use Rattle.std.specs.Prelude.{◌≡◌, ◌⊎◌, ◌≤◌, ◌-◌, ◌^◌, ℕ, List, [], ◌∷◌, length, IsTrue, Result, Ok, Err}
use Rattle.cue_disk.specs.Disk.{Contents, IsImage}
use Rattle.cue_log.specs.Area.{Area, area_text}
use Rattle.cue_snap.specs.Pair.{PairReads, IsSpoiled, NeitherHas}
use Rattle.cue_core.specs.State.{ShowState}
use Rattle.cue_core.specs.Happenings.{events_at, recovered}
use Rattle.cue_keeper.specs.declared.fault.StoreFault.{StoreFault}
use Rattle.cue_keeper.specs.declared.fault.StoreFault.TheVariants as store
use Rattle.cue_keeper.specs.Due.{lacks_room}
use Rattle.cue_keeper.specs.Groups.{records_of}
use Rattle.cue_keeper.specs.Refusals.{HasOtherVersion, StandsForNone}
use Rattle.cue_keeper.specs.Stands.{StandsFor, Stands, StandsEither}
use Rattle.cue_core.specs.Batches.{closed_state}

-- The two stand for a state, and closed it is this one.
pub record ClosedFrom (x y : List ℕ) (s : ShowState) : Type 0 where
  pub before : ShowState
  pub stood : Stands x y before
  pub is : s ≡ closed_state before

-- What a crash might have left stood for a state, and now the two stand for that state or for its closed one.
pub record StandsSince (then_a then_b : Contents) (x y : List ℕ) : Type 0 where
  pub first : List ℕ
  pub second : List ℕ
  pub left_first : IsImage then_a first
  pub left_second : IsImage then_b second
  pub before : ShowState
  pub stood : Stands first second before
  pub stands : StandsEither before (closed_state before) x y

-- both are images of then, or they stand for what such images stood for, closed or not
abbrev pub IsLeftOrStands : Contents → Contents → List ℕ → List ℕ → Type 0
IsLeftOrStands then_a then_b x y = (IsImage then_a x × IsImage then_b y) ⊎ StandsSince then_a then_b x y

-- the record of the cancels, if there are some
abbrev pub cancels_records : ShowState → List (List ℕ)
cancels_records s = records_of (events_at s recovered ∷ [])

-- The two read as an area that stands for the state, and its cancels, of which there are some, need a new area.
pub record NeedsArea (x y : List ℕ) (area : Area) (s : ShowState) : Type 0 where
  pub reads : PairReads area x y
  pub stands : StandsFor area s
  pub some : 1 ≤ length (events_at s recovered)
  pub due : IsTrue (lacks_room (length area.payloads) (length (area_text area)) (cancels_records s))

-- A new area is needed, and no generation is left for it.
pub record NoGenerationLeft (x y : List ℕ) : Type 0 where
  pub area : Area
  pub state : ShowState
  pub needs : NeedsArea x y area state
  pub last : area.generation ≡ 2 ^ 64 - 1

-- why the two cannot be recovered; if memory or a device failed, nothing is said of them
abbrev pub CannotBeRecovered : StoreFault → List ℕ → List ℕ → Type 0
CannotBeRecovered store.NotEmpty x y = ⊥
CannotBeRecovered store.Unformed x y = NeitherHas x y
CannotBeRecovered store.Damaged x y = IsSpoiled x y
CannotBeRecovered store.Version x y = HasOtherVersion x y
CannotBeRecovered store.Malformed x y = StandsForNone x y
CannotBeRecovered store.Full x y = ⊥
CannotBeRecovered store.Exhausted x y = NoGenerationLeft x y
CannotBeRecovered store.Memory x y = Unit {0}
CannotBeRecovered store.Disk x y = Unit {0}

-- it is so if any other fault is answered
abbrev pub RefusedBut : {T E D : Type 0} → E → Type 0 → Result T (E × D × D) → Type 0
RefusedBut fault fact (Ok made) = Unit {0}
RefusedBut fault fact (Err refused) = (refused.0 ≡ fault → ⊥) → fact

-- it is refused with this fault, unless memory ran out or a device failed
abbrev pub MustBeRefusedAs : {T D : Type 0} → StoreFault → Result T (StoreFault × D × D) → Type 0
MustBeRefusedAs fault (Ok made) = ⊥
MustBeRefusedAs fault (Err refused) = (refused.0 ≡ fault) ⊎ (refused.0 ≡ store.Memory) ⊎ (refused.0 ≡ store.Disk)
