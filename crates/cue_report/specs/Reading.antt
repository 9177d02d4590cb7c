-- What a line with its date says.
use Rattle.std.specs.Prelude.{◌≡◌, ℕ, List, Some, drop}
use Rattle.cue_log_lines.specs.Reading.{read}
use Rattle.cue_log_lines.specs.declared.line.Line.TheVariants as line
use Rattle.cue_report.specs.declared.reading.Said.{Said}
use Rattle.cue_report.specs.declared.reading.Said.TheVariants as said

-- what is said stands after the date and a space, written so by the log; or it is a whole line without a date
abbrev pub IsSaidBy : List ℕ → Said → Type 0
IsSaidBy text (said.Line line) = read (drop 21 text) ≡ Some line
IsSaidBy text (said.Ended words) = words.now ≡ text

-- a text is the line of a start
abbrev pub IsStart : List ℕ → Type 0
IsStart text = (dir : List ℕ) × (port : ℕ) × (read (drop 21 text) ≡ Some (line.Ready dir port))

-- a text ends with this: it is what is left of it after some bytes
abbrev pub IsEndOf : List ℕ → List ℕ → Type 0
IsEndOf text end = (n : ℕ) × (end ≡ drop n text)
