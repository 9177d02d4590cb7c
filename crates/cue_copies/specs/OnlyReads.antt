-- What a call does to disks that it only reads.
use Rattle.std.specs.Prelude.{◌≡◌, ◌⊎◌, ◌↔◌}
use Rattle.cue_disk.specs.declared.disk.Disk.{Ghosts}
use Rattle.cue_disk.specs.Disk.{MoreFailures}

-- A disk was read, and no more; `blamed` is whether the answer names a disk as what failed.
pub record OnlyReads {D : Type 0} (disk : Ghosts D) (blamed : Type 0) (old new : D) : Type 0 where
  -- an honest disk holds what it held
  pub kept : disk.is_honest old → disk.held new ≡ disk.held old
  pub honest : disk.is_honest new ↔ disk.is_honest old
  -- a disk is named only if one of its calls failed, and else each call went through
  pub failed : blamed → MoreFailures (disk.failures old) (disk.failures new)
  pub through : (blamed → ⊥) → disk.failures new ≡ disk.failures old

-- The same of two disks, of which either may be the one that failed.
pub record OnlyReadsBoth {D : Type 0} (disk : Ghosts D) (blamed : Type 0) (first second then_first then_second : D)
    : Type 0 where
  pub first_kept : disk.is_honest first → disk.held then_first ≡ disk.held first
  pub second_kept : disk.is_honest second → disk.held then_second ≡ disk.held second
  pub first_honest : disk.is_honest then_first ↔ disk.is_honest first
  pub second_honest : disk.is_honest then_second ↔ disk.is_honest second
  pub failed :
      blamed
      → MoreFailures (disk.failures first) (disk.failures then_first)
      ⊎ MoreFailures (disk.failures second) (disk.failures then_second)
  pub through :
      (blamed → ⊥)
      → (disk.failures then_first ≡ disk.failures first) × (disk.failures then_second ≡ disk.failures second)
