-- What a call did to the disks that it was given: the words in which each layer says it.
use Rattle.std.specs.Prelude.{◌≡◌, ◌≢◌, ◌⊎◌, ◌≤◌, ◌↔◌, Option, Some, IfNone}
use Rattle.cue_disk.specs.declared.disk.Disk.{Ghosts}
use Rattle.cue_disk.specs.Disk.{IsImage, LeavesAtEachMoment, MoreFailures}
use Rattle.cue_log.specs.Area.{Area}
use Rattle.cue_snap.specs.Pair.{PairLeaves, NeitherHas, SomeIsThere, IsSpoiled, IsUnformedOr, AfterBarrier}

-- Honesty is kept in both directions, and failures do not fall.
pub record Keeps {D : Type 0} (disk : Ghosts D) (old new : D) : Type 0 where
  pub honest : disk.is_honest new ↔ disk.is_honest old
  pub failures : disk.failures old ≤ disk.failures new

-- Nothing is written: the bytes stay, and a stop at any moment leaves what one at entry might have left.
pub record OnlySyncs {D : Type 0} (disk : Ghosts D) (old new : D) : Type 0 where
  pub keeps : Keeps disk old new
  pub bytes : disk.is_honest old → (disk.held new).bytes ≡ (disk.held old).bytes
  pub moments : disk.is_honest old → LeavesAtEachMoment disk.moment disk.held_at old new (IsImage (disk.held old))

-- a call of one of the two devices failed
abbrev pub SomeFailed : {D : Type 0} → Ghosts D → (first second new_first new_second : D) → Type 0
SomeFailed disk first second new_first new_second =
    MoreFailures (disk.failures first) (disk.failures new_first)
    ⊎ MoreFailures (disk.failures second) (disk.failures new_second)

-- Two disks without areas get a first one. `full` and `broke` are the faults of the layer for a disk that has an area
-- already, and for a device that failed.
pub record Forms {D E : Type 0} (disk : Ghosts D) (full broke : E) (area : Area)
    (first second new_first new_second : D) (refused : Option E) : Type 0 where
  -- after Ok whatever a stop leaves reads as the new area
  pub formed :
      disk.is_honest first
      → disk.is_honest second
      → IfNone refused (PairLeaves (disk.held new_first) (disk.held new_second) area)
  -- it goes on only if neither disk has an area, and says that one has only if so
  pub empty :
      disk.is_honest first
      → disk.is_honest second
      → IfNone refused (NeitherHas (disk.held first).bytes (disk.held second).bytes)
  pub not_empty :
      disk.is_honest first
      → disk.is_honest second
      → refused ≡ Some full
      → SomeIsThere (disk.held first).bytes (disk.held second).bytes
  pub unwritten : refused ≡ Some full → OnlySyncs disk first new_first
  pub failed : refused ≡ Some broke → SomeFailed disk first second new_first new_second
  -- up to the barrier a stop leaves what one at entry might have left; from then on that, no area, or this one
  pub moments :
      disk.is_honest first
      → disk.is_honest second
      → AfterBarrier disk.moment disk.held_at first second new_first new_second
      (IsUnformedOr area (disk.held first) (disk.held second))
  pub first_kept : Keeps disk first new_first
  pub second_kept : OnlySyncs disk second new_second

-- Two disks are opened, and nothing is written. `damaged`, `unformed` and `broke` are the faults of the layer for an
-- area that cannot be taken, for no area, and for a device that failed.
pub record Opens {D E : Type 0} (disk : Ghosts D) (damaged unformed broke : E)
    (first second new_first new_second : D) (refused : Option E) : Type 0 where
  pub spoiled :
      disk.is_honest first
      → disk.is_honest second
      → refused ≡ Some damaged
      → IsSpoiled (disk.held first).bytes (disk.held second).bytes
  pub empty :
      disk.is_honest first
      → disk.is_honest second
      → refused ≡ Some unformed
      → NeitherHas (disk.held first).bytes (disk.held second).bytes
  pub failed : refused ≡ Some broke → SomeFailed disk first second new_first new_second
  -- no other answer hides a fault of a device: each call went through
  pub went_through :
      refused ≢ Some broke
      → (disk.failures new_first ≡ disk.failures first) × (disk.failures new_second ≡ disk.failures second)
  pub first_kept : OnlySyncs disk first new_first
  pub second_kept : OnlySyncs disk second new_second
