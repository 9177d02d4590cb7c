-- What a call that appends records does to a pair, whether it succeeds or fails.
use Rattle.std.specs.Prelude.{◌≡◌, ◌≤◌, ◌+◌, ◌↔◌, ℕ, false, true, List, [], length}
use Rattle.std.specs.Prelude.{Result, OnOk, IfErr, IsErrOf}
use Rattle.cue_disk.specs.declared.disk.Disk.{Ghosts}
use Rattle.cue_disk.specs.Disk.{IsImage, LeavesAtEachMoment, MoreFailures, overwritten_bytes}
use Rattle.cue_log.specs.declared.log.AppendFault.{AppendFault}
use Rattle.cue_log.specs.declared.log.AppendFault.TheVariants as fault
use Rattle.cue_log.specs.Appending as log
use Rattle.cue_log.specs.Area.{group_text, room_of, with_payloads}
use Rattle.cue_snap.specs.declared.snap.Snap.{Snap}
use Rattle.cue_snap.specs.Pair.{PairIsEither, PairLeaves}
use Rattle.cue_snap.specs.Observed.{live_of, spare_of, is_first_live, generation_of, end_of, count_of, is_broken}
use Rattle.cue_snap.specs.Observed.{live_area_of}

-- with them the encoding of the live area, its last gate included, would pass the limit
abbrev pub LacksRoom : {D : Type 0} {disk : Ghosts D} → Snap D disk → List (List ℕ) → Type 0
LacksRoom snap payloads = log.LacksRoom snap.log payloads

-- a device call failed on the live disk
abbrev pub LiveHasFailed : {D : Type 0} {disk : Ghosts D} → (old new : Snap D disk) → Type 0
LiveHasFailed {D} {disk} old new = MoreFailures (disk.failures (live_of old)) (disk.failures (live_of new))

-- why records are refused with this fault
abbrev pub HasCause :
    {D : Type 0} {disk : Ghosts D} → List (List ℕ) → (old new : Snap D disk) → AppendFault → Type 0
HasCause payloads old new fault.Broken = is_broken old ≡ true
HasCause payloads old new fault.Full = (is_broken old ≡ false) × LacksRoom old payloads
HasCause payloads old new fault.Disk = (is_broken old ≡ false) × LiveHasFailed old new

-- What is left of the pair: only a device's own failure has changed anything. It breaks the pair, which keeps its
-- numbers: whether the records are there is known once the pair is opened again.
abbrev pub LeavesSnap : {D : Type 0} {disk : Ghosts D} → (old new : Snap D disk) → AppendFault → Type 0
LeavesSnap old new fault.Broken = new ≡ old
LeavesSnap old new fault.Full = new ≡ old
LeavesSnap old new fault.Disk =
    (is_broken new ≡ true) × (count_of new ≡ count_of old) × (end_of new ≡ end_of old)

-- Records are given to a pair.
pub record Appends {T D : Type 0} {disk : Ghosts D} (payloads : List (List ℕ)) (result : Result T AppendFault)
    (old new : Snap D disk) : Type 0 where
  -- each fault has its reason
  pub cause : IfErr result (HasCause payloads old new)
  pub after : IfErr result (LeavesSnap old new)
  -- Broken comes first, then Full: each wherever it can
  pub broken : is_broken old ≡ true → IsErrOf result fault.Broken
  pub full : is_broken old ≡ false → LacksRoom old payloads → IsErrOf result fault.Full
  -- if there is no record, there is no device call
  pub quiet : payloads ≡ [] → new ≡ old
  -- after Ok they are there, whatever a stop leaves
  pub appended :
      disk.is_honest (live_of old)
      → disk.is_honest (spare_of old)
      → OnOk result
      (PairLeaves (disk.held (live_of new)) (disk.held (spare_of new))
      (with_payloads (live_area_of disk.held old) payloads))
  pub area :
      disk.is_honest (live_of old)
      → OnOk result (live_area_of disk.held new ≡ with_payloads (live_area_of disk.held old) payloads)
  pub works : OnOk result (is_broken new ≡ false)
  pub count : OnOk result (count_of new ≡ count_of old + length payloads)
  pub end : OnOk result (end_of new ≡ end_of old + room_of payloads)
  pub generation : generation_of new ≡ generation_of old
  -- the bytes from the last gate on, if there is a record
  pub bytes :
      1 ≤ length payloads
      → disk.is_honest (live_of old)
      → OnOk result
      ((disk.held (live_of new)).bytes
      ≡ overwritten_bytes (disk.held (live_of old)).bytes (end_of old) (group_text payloads))
  -- the spare disk is not touched
  pub spare : spare_of new ≡ spare_of old
  pub sides : is_first_live new ≡ is_first_live old
  -- a stop at any moment leaves the area as it was, or with all of the records
  pub any_moment :
      disk.is_honest (live_of old)
      → disk.is_honest (spare_of old)
      → is_broken old ≡ false
      → (y : List ℕ)
      → IsImage (disk.held (spare_of old)) y
      → LeavesAtEachMoment disk.moment disk.held_at (live_of old) (live_of new)
      (λ x. PairIsEither (live_area_of disk.held old) (with_payloads (live_area_of disk.held old) payloads) x y)
  pub failures : disk.failures (live_of old) ≤ disk.failures (live_of new)
  pub honest : disk.is_honest (live_of new) ↔ disk.is_honest (live_of old)
