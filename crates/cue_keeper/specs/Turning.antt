-- When batches need a new area, and what can stand in their way.
use Rattle.std.specs.Prelude.{◌≡◌, ◌<◌, ◌+◌, ◌-◌, ◌^◌, Bool, List, length, IsTrue}
use Rattle.cue_disk.specs.declared.disk.Disk.{Ghosts}
use Rattle.cue_log.specs.declared.area.TheConstants.{MAX_AREA, FRAME_LEN, HEAD_LEN}
use Rattle.cue_snap.specs.declared.snap.Snap.{Snap}
use Rattle.cue_snap.specs.Observed.{generation_of, count_of, end_of}
use Rattle.cue_core.specs.declared.event.Event.{Event}
use Rattle.cue_core.specs.State.{ShowState}
use Rattle.cue_records.specs.Batch.{batch_text}
use Rattle.cue_records.specs.State.{state_text}
use Rattle.cue_keeper.specs.declared.fault.Fault.{Fault}
use Rattle.cue_keeper.specs.declared.fault.Fault.TheVariants as fault
use Rattle.cue_keeper.specs.Due.{lacks_room}
use Rattle.cue_keeper.specs.Groups.{with_events, records_of, AreSeveral}

-- the live area has no room for what these batches are on the disks
abbrev pub lack_room : {D : Type 0} {disk : Ghosts D} → Snap D disk → List (List Event) → Bool
lack_room snap batches = lacks_room (count_of snap) (end_of snap) (records_of batches)

-- no generation is left for a new area
abbrev pub IsAtTheLast : {D : Type 0} {disk : Ghosts D} → Snap D disk → Type 0
IsAtTheLast snap = generation_of snap ≡ 2 ^ 64 - 1

-- they go into a new area: one of them has an event, and the live area lacks room for it
abbrev pub TurnsOver : {D : Type 0} {disk : Ghosts D} → Snap D disk → List (List Event) → Type 0
TurnsOver snap batches = IsTrue (lack_room snap batches) × (length (with_events batches) ≡ 1)

-- why a pair takes no more batches: one batch alone would go into a new area, and no generation is left; several stay
-- together in the live one
abbrev pub IsInTheWay : {D : Type 0} {disk : Ghosts D} → Snap D disk → List (List Event) → Fault → Type 0
IsInTheWay snap batches fault.Broken = ⊥
IsInTheWay snap batches fault.Memory = ⊥
IsInTheWay snap batches fault.Exhausted =
    IsTrue (lack_room snap batches) × (length (with_events batches) ≡ 1) × IsAtTheLast snap
IsInTheWay snap batches fault.Full = IsTrue (lack_room snap batches) × AreSeveral batches
IsInTheWay snap batches fault.Disk = ⊥

-- a new area has no room for the state and the batch
abbrev pub HasNoRoom : ShowState → List Event → Type 0
HasNoRoom s batch = MAX_AREA < HEAD_LEN + FRAME_LEN + 1 + length (state_text s) + length (batch_text batch)
