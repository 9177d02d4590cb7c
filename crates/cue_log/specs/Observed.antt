-- What callers see of a log.
use Rattle.std.specs.Prelude.{ℕ, Bool, Result, Ok, Err}
use Rattle.cue_disk.specs.Disk.{Contents}
use Rattle.cue_log.specs.Area.{Area}
use Rattle.cue_log.specs.Reading.{area_in}
use Rattle.cue_log.specs.declared.log.Log.{Log}

-- the disk that it writes
abbrev pub disk_of : {D : Type 0} {disk : _} → Log D disk → D
disk_of log = log.disk

-- the generation that its area was formed with
abbrev pub generation_of : {D : Type 0} {disk : _} → Log D disk → ℕ
generation_of log = log.generation

-- where its last gate stands: its encoding has one byte more
abbrev pub end_of : {D : Type 0} {disk : _} → Log D disk → ℕ
end_of log = log.end

-- how many records it has
abbrev pub count_of : {D : Type 0} {disk : _} → Log D disk → ℕ
count_of log = log.count

-- a device call has failed
abbrev pub is_broken : {D : Type 0} {disk : _} → Log D disk → Bool
is_broken log = log.broken

-- the area that its disk holds, over what the disk's type says of it
abbrev pub area_of : {D : Type 0} {disk : _} → (D → Contents) → Log D disk → Area
area_of held log = area_in (held log.disk).bytes

-- the disk that comes back: in what was made, or with the fault
abbrev pub disk_after : {T E D : Type 0} → (T → D) → Result T (E × D) → D
disk_after disk_in (Ok made) = disk_in made
disk_after disk_in (Err refused) = refused.1

-- the disk on which an area was to be formed: at Ok the log has it
abbrev pub formed_disk : {T E D : Type 0} → Result T E → D → D → D
formed_disk (Ok done) of_log spare = of_log
formed_disk (Err fault) of_log spare = spare
