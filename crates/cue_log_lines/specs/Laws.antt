-- What writing and reading come to.
use Rattle.std.specs.Prelude.{◌≡◌, ℕ, List, Some}
use Rattle.cue_log_lines.specs.declared.line.Line.{Line}
use Rattle.cue_log_lines.specs.Fitting.{Fits}
use Rattle.cue_log_lines.specs.Lines.{write}
use Rattle.cue_log_lines.specs.Reading.{read}

-- what was written is read as what was said
abbrev pub LinesAreReadBack : Type 0
LinesAreReadBack = (l : Line) → Fits l → read (write l) ≡ Some l

-- what is read was written so: no other text is a line of the log
abbrev pub OnlyLinesAreRead : Type 0
OnlyLinesAreRead = (text : List ℕ) (l : Line) → read text ≡ Some l → text ≡ write l

-- lines with the same bytes say the same
abbrev pub LinesDiffer : Type 0
LinesDiffer = (one other : Line) → Fits one → Fits other → write one ≡ write other → one ≡ other
