-- What callers see of a pair.
use Rattle.std.specs.Prelude.{◌≡◌, ℕ, Bool, if◌then◌else◌, Result, Ok, Err, Option, None, Some}
use Rattle.cue_disk.specs.Disk.{Contents}
use Rattle.cue_log.specs.Area.{Area}
use Rattle.cue_log.specs.Observed as log
pub use Rattle.cue_log.specs.Opened.{FailsAs, CountsOnlyAs}
use Rattle.cue_snap.specs.declared.snap.Snap.{Snap}

-- the disk with the area that counts
abbrev pub live_of : {D : Type 0} {disk : _} → Snap D disk → D
live_of snap = log.disk_of snap.log

-- the other disk, which the next turn-over writes
abbrev pub spare_of : {D : Type 0} {disk : _} → Snap D disk → D
spare_of snap = snap.spare

-- the first of the two disks is the live one
abbrev pub is_first_live : {D : Type 0} {disk : _} → Snap D disk → Bool
is_first_live snap = snap.first_is_live

-- the first of the two disks
abbrev pub first_of : {D : Type 0} {disk : _} → Snap D disk → D
first_of snap = if snap.first_is_live then log.disk_of snap.log else snap.spare

-- the second of the two disks
abbrev pub second_of : {D : Type 0} {disk : _} → Snap D disk → D
second_of snap = if snap.first_is_live then snap.spare else log.disk_of snap.log

-- the generation of the live area
abbrev pub generation_of : {D : Type 0} {disk : _} → Snap D disk → ℕ
generation_of snap = log.generation_of snap.log

-- where the last gate of the live area stands
abbrev pub end_of : {D : Type 0} {disk : _} → Snap D disk → ℕ
end_of snap = log.end_of snap.log

-- how many records the live area has
abbrev pub count_of : {D : Type 0} {disk : _} → Snap D disk → ℕ
count_of snap = log.count_of snap.log

-- a device call has failed
abbrev pub is_broken : {D : Type 0} {disk : _} → Snap D disk → Bool
is_broken snap = snap.broken

-- the area that the live disk holds, over what the disk's type says of it
abbrev pub live_area_of : {D : Type 0} {disk : _} → (D → Contents) → Snap D disk → Area
live_area_of held snap = log.area_of held snap.log

-- the disk that a turn-over writes: the spare one at entry, which is live after Ok
abbrev pub turned_disk : {E D : Type 0} {disk : _} {T : Type 0} → Result T E → Snap D disk → D
turned_disk (Ok done) snap = log.disk_of snap.log
turned_disk (Err fault) snap = snap.spare

-- the first of the two disks that come back: in what was made, or with the fault
abbrev pub first_after : {T E D : Type 0} → (T → D) → Result T (E × D × D) → D
first_after disk_in (Ok made) = disk_in made
first_after disk_in (Err refused) = refused.1

-- the second of the two disks that come back
abbrev pub second_after : {T E D : Type 0} → (T → D) → Result T (E × D × D) → D
second_after disk_in (Ok made) = disk_in made
second_after disk_in (Err refused) = refused.2

-- the fault, if the disks come back with one
abbrev pub fault_of : {T E D : Type 0} → Result T (E × D × D) → Option E
fault_of (Ok made) = None
fault_of (Err refused) = Some refused.0

-- this fault is answered only if it is so
abbrev pub RefusedAs : {T E D : Type 0} → E → Type 0 → Result T (E × D × D) → Type 0
RefusedAs fault reason (Ok made) = Unit {0}
RefusedAs fault reason (Err refused) = refused.0 ≡ fault → reason
