-- What a call that appends records does, whether it succeeds or fails.
use Rattle.std.specs.Prelude.{◌≡◌, ◌≤◌, ◌<◌, ◌+◌, ◌↔◌, ℕ, false, true, List, [], length}
use Rattle.std.specs.Prelude.{Result, OnOk, IfErr, IsErrOf}
use Rattle.cue_disk.specs.declared.disk.Disk.{Ghosts}
use Rattle.cue_disk.specs.Disk.{LeavesAtEachMoment, CountsFailure, MoreFailures, overwritten_bytes}
use Rattle.cue_log.specs.declared.area.TheConstants.{MAX_AREA}
use Rattle.cue_log.specs.declared.log.AppendFault.{AppendFault}
use Rattle.cue_log.specs.declared.log.AppendFault.TheVariants as fault
use Rattle.cue_log.specs.declared.log.Log.{Log}
use Rattle.cue_log.specs.Area.{group_text, room_of, with_payloads}
use Rattle.cue_log.specs.Reading.{area_in}
use Rattle.cue_log.specs.Log.{IsEither, IsSettled, ReadsAs}
use Rattle.cue_log.specs.Observed.{disk_of, generation_of, end_of, count_of, is_broken, area_of}

-- Records are written on a disk, from the last gate of its area on, which stands at `end`.
pub record Writes {T E D : Type 0} (disk : Ghosts D) (payloads : List (List ℕ)) (result : Result T E) (end : ℕ)
    (old new : D) : Type 0 where
  -- a stop at any moment leaves the area as it was, or with all of the records
  pub any_moment :
      disk.is_honest old
      → LeavesAtEachMoment disk.moment disk.held_at old new
      (IsEither (area_in (disk.held old).bytes) (with_payloads (area_in (disk.held old).bytes) payloads))
  -- after Ok they are there, and stay
  pub area :
      disk.is_honest old
      → OnOk result (area_in (disk.held new).bytes ≡ with_payloads (area_in (disk.held old).bytes) payloads)
  pub settled : disk.is_honest old → OnOk result (IsSettled (disk.held new) (end + room_of payloads))
  pub bytes :
      disk.is_honest old
      → OnOk result ((disk.held new).bytes ≡ overwritten_bytes (disk.held old).bytes end (group_text payloads))
  pub count : CountsFailure result (disk.failures old) (disk.failures new)
  pub honest : disk.is_honest new ↔ disk.is_honest old

-- with them the encoding of the area, its last gate included, would pass the limit
abbrev pub LacksRoom : {D : Type 0} {disk : Ghosts D} → Log D disk → List (List ℕ) → Type 0
LacksRoom log payloads = MAX_AREA < end_of log + 1 + room_of payloads

-- a device call failed
abbrev pub DiskHasFailed : {D : Type 0} {disk : Ghosts D} → (old new : Log D disk) → Type 0
DiskHasFailed {D} {disk} old new = MoreFailures (disk.failures (disk_of old)) (disk.failures (disk_of new))

-- why records are refused with this fault
abbrev pub HasCause :
    {D : Type 0} {disk : Ghosts D} → List (List ℕ) → (old new : Log D disk) → AppendFault → Type 0
HasCause payloads old new fault.Broken = is_broken old ≡ true
HasCause payloads old new fault.Full = (is_broken old ≡ false) × LacksRoom old payloads
HasCause payloads old new fault.Disk = (is_broken old ≡ false) × DiskHasFailed old new

-- What is left of the log: only the device's own failure has changed anything. It breaks the log, which keeps its
-- numbers.
abbrev pub LeavesLog : {D : Type 0} {disk : Ghosts D} → (old new : Log D disk) → AppendFault → Type 0
LeavesLog old new fault.Broken = new ≡ old
LeavesLog old new fault.Full = new ≡ old
LeavesLog old new fault.Disk =
    (is_broken new ≡ true) × (count_of new ≡ count_of old) × (end_of new ≡ end_of old)

-- Records are given to a log.
pub record Appends {T D : Type 0} {disk : Ghosts D} (payloads : List (List ℕ)) (result : Result T AppendFault)
    (old new : Log D disk) : Type 0 where
  -- each fault has its reason
  pub cause : IfErr result (HasCause payloads old new)
  pub after : IfErr result (LeavesLog old new)
  -- Broken comes first, then Full: each wherever it can
  pub broken : is_broken old ≡ true → IsErrOf result fault.Broken
  pub full : is_broken old ≡ false → LacksRoom old payloads → IsErrOf result fault.Full
  -- if there is no record, there is no device call
  pub quiet : payloads ≡ [] → new ≡ old
  -- after Ok they are there, whatever a stop leaves
  pub appended :
      disk.is_honest (disk_of old)
      → OnOk result (ReadsAs (disk.held (disk_of new)) (with_payloads (area_of disk.held old) payloads))
  pub area :
      disk.is_honest (disk_of old)
      → OnOk result (area_of disk.held new ≡ with_payloads (area_of disk.held old) payloads)
  pub works : OnOk result (is_broken new ≡ false)
  pub count : OnOk result (count_of new ≡ count_of old + length payloads)
  pub end : OnOk result (end_of new ≡ end_of old + room_of payloads)
  pub generation : generation_of new ≡ generation_of old
  -- the bytes from the last gate on, if there is a record
  pub bytes :
      1 ≤ length payloads
      → disk.is_honest (disk_of old)
      → OnOk result
      ((disk.held (disk_of new)).bytes
      ≡ overwritten_bytes (disk.held (disk_of old)).bytes (end_of old) (group_text payloads))
  -- a stop at any moment leaves the area as it was, or with all of the records
  pub any_moment :
      disk.is_honest (disk_of old)
      → is_broken old ≡ false
      → LeavesAtEachMoment disk.moment disk.held_at (disk_of old) (disk_of new)
      (IsEither (area_of disk.held old) (with_payloads (area_of disk.held old) payloads))
  pub failures : disk.failures (disk_of old) ≤ disk.failures (disk_of new)
  pub honest : disk.is_honest (disk_of new) ↔ disk.is_honest (disk_of old)
