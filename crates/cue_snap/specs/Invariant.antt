-- Helper: what a pair that is not broken keeps of its live log and of its spare disk.
use Rattle.std.specs.Prelude.{◌≡◌, false}
use Rattle.cue_disk.specs.Disk.{Contents}
use Rattle.cue_log.specs.Log.{ReadsAs}
use Rattle.cue_log.specs.Observed.{disk_of, generation_of, is_broken, area_of}
use Rattle.cue_log.specs.declared.log.Log.{Log}
use Rattle.cue_snap.specs.Pair.{LeavesOlder}

-- no device call of it has failed
abbrev pub LogWorks : {D : Type 0} {disk : _} → Log D disk → Type 0
LogWorks log = is_broken log ≡ false

-- whatever a crash leaves of its disk reads as its area
abbrev pub LogReads : {D : Type 0} {disk : _} → (D → Contents) → Log D disk → Type 0
LogReads held log = ReadsAs (held (disk_of log)) (area_of held log)

-- its generation is that of its area
abbrev pub LogIsNumbered : {D : Type 0} {disk : _} → (D → Contents) → Log D disk → Type 0
LogIsNumbered held log = generation_of log ≡ (area_of held log).generation

-- whatever a crash leaves of the spare disk is older than that
abbrev pub SpareIsOlder : {D : Type 0} {disk : _} → (D → Contents) → Log D disk → D → Type 0
SpareIsOlder held log spare = LeavesOlder (held spare) (generation_of log)
