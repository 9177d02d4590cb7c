-- Where the alarms of a desk are kept.
use Rattle.std.specs.Prelude.{ℕ, Bool, true, false, List}
use Rattle.cue_desk_run.specs.declared.alarms.AlarmsFile.{AlarmsFile}
use Rattle.cue_desk_run.specs.declared.alarms.AlarmsFile.TheVariants as file

-- the path of the file
abbrev pub path_of : AlarmsFile → List ℕ
path_of (file.Own path) = path.now
path_of (file.OfAnother path) = path.now

-- this desk writes it; of another one it is only read
abbrev pub is_of_this_desk : AlarmsFile → Bool
is_of_this_desk (file.Own path) = true
is_of_this_desk (file.OfAnother path) = false
