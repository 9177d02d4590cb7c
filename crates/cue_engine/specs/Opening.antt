-- What an engine has that was just formed or recovered, and why a recovery is refused.
use Rattle.std.specs.Prelude.{◌≡◌, ◌≤◌, ◌+◌, [], ◌∷◌, false, Result, IfErr}
use Rattle.cue_disk.specs.declared.disk.Disk.{Ghosts}
use Rattle.cue_disk.specs.Disk.{IsImage, LeavesAtEachMoment}
use Rattle.cue_log.specs.Area.{Area}
use Rattle.cue_snap.specs.Disks.{SomeFailed}
use Rattle.cue_snap.specs.Observed.{first_after, second_after, RefusedAs}
use Rattle.cue_snap.specs.Pair.{PairReads}
use Rattle.cue_core.specs.Batches.{closed_state}
use Rattle.cue_core.specs.Happenings.{events_at, recovered}
use Rattle.cue_core.specs.State.{ShowState}
use Rattle.cue_keeper.specs.declared.fault.StoreFault.{StoreFault}
use Rattle.cue_keeper.specs.declared.fault.StoreFault.TheVariants as store
use Rattle.cue_keeper.specs.declared.keeper.Keeper.{Keeper}
use Rattle.cue_keeper.specs.Observed as kept
use Rattle.cue_keeper.specs.Opening as keeper
use Rattle.cue_keeper.specs.Stands.{Stands}
use Rattle.cue_outbox.specs.Sending.{datagrams, all_pending}
use Rattle.cue_engine.specs.declared.engine.Engine.{Engine}
use Rattle.cue_engine.specs.Observed.{keeper_of, state_of, queue_of, last_batches_of, last_accounts_of}
use Rattle.cue_engine.specs.Given.{account_of, given_recovery}
use Rattle.cue_engine.specs.Recovery.{CannotBeRecovered, NoGenerationLeft, MustBeRefusedAs, RefusedBut}
use Rattle.cue_engine.specs.Taking.{IsOffered}

-- Nothing is owed, and no input was offered or taken.
pub record IsNew {D : Type 0} {disk : Ghosts D} (engine : Engine D disk) : Type 0 where
  pub kept : keeper.IsNew (keeper_of engine)
  pub queue : queue_of engine ≡ []
  pub offered : IsOffered [] engine
  pub last : last_batches_of engine ≡ []

-- What is pending is owed, and no input was offered.
pub record Owes {D : Type 0} {disk : Ghosts D} (engine : Engine D disk) : Type 0 where
  pub queue : queue_of engine ≡ datagrams (all_pending (state_of engine))
  pub offered : IsOffered [] engine
  pub works : kept.is_broken (keeper_of engine) ≡ false

-- over two disks that read as an area, there was one new area at most
abbrev pub TurnedOnceFrom : {D : Type 0} → (disk : Ghosts D) → (first second : D) → Engine D disk → Type 0
TurnedOnceFrom disk first second engine = disk.is_honest first → disk.is_honest second → (area : Area)
    → PairReads area (disk.held first).bytes (disk.held second).bytes
    → kept.generation_of (keeper_of engine) ≤ area.generation + 1

-- It owes what is pending in the state of this keeper, closed, and the batch that was accepted last is the cancels.
pub record IsClosedFrom {D : Type 0} {disk : Ghosts D} (keeper : Keeper D disk) (engine : Engine D disk)
    : Type 0 where
  pub owes : Owes engine
  pub state : state_of engine ≡ closed_state (kept.state_of keeper)
  pub last : last_batches_of engine ≡ events_at (kept.state_of keeper) recovered ∷ []
  pub account : last_accounts_of engine ≡ account_of (given_recovery (kept.state_of keeper)) ∷ []
  pub turned : TurnedOnceFrom disk (kept.first_of keeper) (kept.second_of keeper) engine

-- It owes what is pending, and the batch that was accepted last is the cancels of what stood on the disks.
pub record IsRecovered {D : Type 0} {disk : Ghosts D} (first second : D) (engine : Engine D disk) : Type 0 where
  pub owes : Owes engine
  pub last :
      disk.is_honest first
      → disk.is_honest second
      → (s : ShowState)
      → Stands (disk.held first).bytes (disk.held second).bytes s
      → last_batches_of engine ≡ events_at s recovered ∷ []
  -- and its account has what is pending
  pub account :
      disk.is_honest first
      → disk.is_honest second
      → (s : ShowState)
      → Stands (disk.held first).bytes (disk.held second).bytes s
      → last_accounts_of engine ≡ account_of (given_recovery s) ∷ []
  pub turned : TurnedOnceFrom disk first second engine

-- the faults with which cancels are refused
abbrev pub IsOfCancels : StoreFault → Type 0
IsOfCancels store.Memory = Unit {0}
IsOfCancels store.Exhausted = Unit {0}
IsOfCancels store.Disk = Unit {0}
IsOfCancels _ = ⊥

-- The cancels are refused over these two disks: each fault has its reason.
pub record RefusesCancels {T D : Type 0} (disk : Ghosts D) (first_in second_in : T → D) (first second : D)
    (result : Result T (StoreFault × D × D)) : Type 0 where
  pub exhausted :
      disk.is_honest first
      → disk.is_honest second
      → RefusedAs store.Exhausted (NoGenerationLeft (disk.held first).bytes (disk.held second).bytes) result
  pub failed :
      RefusedAs store.Disk
      (SomeFailed disk first second (first_after first_in result) (second_after second_in result)) result
  pub no_other : IfErr result (λ refused. IsOfCancels refused.0)
  -- Exhausted comes wherever it can
  pub due_at_the_last :
      disk.is_honest first
      → disk.is_honest second
      → NoGenerationLeft (disk.held first).bytes (disk.held second).bytes
      → MustBeRefusedAs store.Exhausted result
  -- any fault but that of a device leaves both disks as they were
  pub unwritten :
      RefusedBut store.Disk
      ((first_after first_in result ≡ first) × (second_after second_in result ≡ second)) result

-- A recovery from these two disks is refused: each fault has its reason.
pub record RefusesRecovery {T D : Type 0} (disk : Ghosts D) (first_in second_in : T → D) (first second : D)
    (result : Result T (StoreFault × D × D)) : Type 0 where
  pub cause :
      disk.is_honest first
      → disk.is_honest second
      → IfErr result (λ refused. CannotBeRecovered refused.0 (disk.held first).bytes (disk.held second).bytes)
  pub failed :
      RefusedAs store.Disk
      (SomeFailed disk first second (first_after first_in result) (second_after second_in result)) result
  -- no other refusal hides a fault of a device: each call went through
  pub went_through :
      RefusedBut store.Disk
      ((disk.failures (first_after first_in result) ≡ disk.failures first)
      × (disk.failures (second_after second_in result) ≡ disk.failures second)) result
  -- a new area has room for any state and the cancels
  pub no_other : RefusedAs store.NotEmpty ⊥ result × RefusedAs store.Full ⊥ result
  -- Exhausted comes wherever it can
  pub due_at_the_last :
      disk.is_honest first
      → disk.is_honest second
      → NoGenerationLeft (disk.held first).bytes (disk.held second).bytes
      → MustBeRefusedAs store.Exhausted result
  -- a store that stands for a state is never called unformed, damaged, of another version or malformed
  pub readable :
      disk.is_honest first
      → disk.is_honest second
      → (s : ShowState)
      → Stands (disk.held first).bytes (disk.held second).bytes s
      → RefusedAs store.Unformed ⊥ result
      × RefusedAs store.Damaged ⊥ result
      × RefusedAs store.Version ⊥ result
      × RefusedAs store.Malformed ⊥ result
  -- any refusal but that of a device has written nothing
  pub unwritten :
      disk.is_honest first
      → disk.is_honest second
      → RefusedBut store.Disk
      (LeavesAtEachMoment disk.moment disk.held_at first (first_after first_in result) (IsImage (disk.held first))
      × LeavesAtEachMoment disk.moment disk.held_at second (second_after second_in result)
      (IsImage (disk.held second))) result
