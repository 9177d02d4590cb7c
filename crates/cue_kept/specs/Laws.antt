-- What writing and reading come to.
use Rattle.std.specs.Prelude.{◌≡◌, ℕ, ◌<◌, length, take, Some, None}
use Rattle.cue_kept.specs.Alarms.{Alarms, Fits}
use Rattle.cue_kept.specs.Reading.{read}
use Rattle.cue_kept.specs.Text.{write}

-- what was written is read back, whole
abbrev pub AlarmsAreReadBack : Type 0
AlarmsAreReadBack = (a : Alarms) → Fits a → read (write a) ≡ Some a

-- a text that was cut off anywhere is not read
abbrev pub CutTextsAreNotRead : Type 0
CutTextsAreNotRead = (a : Alarms) (n : ℕ) → Fits a → n < length (write a) → read (take n (write a)) ≡ None
