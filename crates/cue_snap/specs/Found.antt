-- Helper: what each of two disks was found to have, and what is chosen of the two.
use Rattle.std.specs.Prelude.{◌≡◌, Bool, false, length}
use Rattle.cue_disk.specs.Disk.{Contents}
use Rattle.cue_log.specs.Log.{ReadsAs, LeavesAbsent, IsDamaged}
use Rattle.cue_log.specs.Opened as log
use Rattle.cue_log.specs.Observed as log_observed
use Rattle.cue_log.specs.declared.log.Log.{Log}
use Rattle.cue_log.specs.declared.opening.Opened.{Opened}
use Rattle.cue_snap.specs.Pair.{PairLeaves, PairReads}
use Rattle.cue_snap.specs.Observed.{live_of, spare_of, is_first_live, is_broken, generation_of, count_of, live_area_of}
use Rattle.cue_snap.specs.Opened.{live_area_read}
use Rattle.cue_snap.specs.declared.choosing.Found.{Found}
use Rattle.cue_snap.specs.declared.choosing.Found.TheVariants.{Area, Absent, Damaged}
use Rattle.cue_snap.specs.declared.opening.Opened2.{Opened2}
use Rattle.cue_snap.specs.declared.snap.Snap.{Snap}

-- the disk that was looked at
abbrev pub disk_in : {D : Type 0} {disk : _} → Found D disk → D
disk_in (Area opened) = log.opened_disk opened
disk_in (Absent disk) = disk
disk_in (Damaged disk) = disk

-- whatever a crash leaves reads as what was opened, and the log has just that
abbrev pub IsOpened : {D : Type 0} {disk : _} → (D → Contents) → Opened D disk → Type 0
IsOpened held opened = ReadsAs (held (log.opened_disk opened)) (log.area_read opened)
    × (log_observed.area_of held opened.log ≡ log.area_read opened)

-- its log works, and counts its records
abbrev pub OpenedWorks : {D : Type 0} {disk : _} → Opened D disk → Type 0
OpenedWorks opened = (log_observed.is_broken opened.log ≡ false)
    × (log_observed.count_of opened.log ≡ length opened.records)

-- what was found is there, and stays
abbrev pub IsFound : {D : Type 0} {disk : _} → (D → Contents) → Found D disk → Type 0
IsFound held (Area opened) = IsOpened held opened
IsFound held (Absent disk) = LeavesAbsent (held disk)
IsFound held (Damaged disk) = IsDamaged (held disk).bytes

-- a log that was found works
abbrev pub FoundWorks : {D : Type 0} {disk : _} → Found D disk → Type 0
FoundWorks (Area opened) = OpenedWorks opened
FoundWorks (Absent disk) = Unit {0}
FoundWorks (Damaged disk) = Unit {0}

-- The pair is made of this log and this spare disk.
pub record IsPairOf {D : Type 0} {disk : _} (log : Log D disk) (spare : D) (first_is_live : Bool)
    (snap : Snap D disk) : Type 0 where
  pub live : live_of snap ≡ log_observed.disk_of log
  pub spare_is : spare_of snap ≡ spare
  pub side : is_first_live snap ≡ first_is_live
  pub works : is_broken snap ≡ false
  pub generation : generation_of snap ≡ log_observed.generation_of log
  pub count : count_of snap ≡ log_observed.count_of log

-- its pair works, and counts its records
abbrev pub PairWorks : {D : Type 0} {disk : _} → Opened2 D disk → Type 0
PairWorks opened = (is_broken opened.snap ≡ false) × (count_of opened.snap ≡ length opened.tail)

-- What is chosen stands on the two disks, and stays.
pub record IsChosen {D : Type 0} {disk : _} (held : D → Contents) (a b : D) (opened : Opened2 D disk) : Type 0 where
  pub stood : PairReads (live_area_read opened) (held a).bytes (held b).bytes
  pub reads : PairLeaves (held a) (held b) (live_area_read opened)
  pub same_area : live_area_of held opened.snap ≡ live_area_read opened
