-- What a mark says of the curtain, and the marks of a file.
use Rattle.std.specs.Prelude.{◌≡◌, ℕ, ℤ, ◌+◌, ◌++◌, min, List, [], ◌∷◌, codes, Option, Some, None, if◌then◌else◌}
use Rattle.std.specs.List.{filter}
use Rattle.cue_show.specs.Number.{same_text}
use Rattle.cue_report.specs.Range.{has}
use Rattle.cue_report.specs.declared.marks.Curtain.{Curtain}
use Rattle.cue_report.specs.declared.marks.Curtain.TheVariants.{Up, Down}
use Rattle.cue_report.specs.declared.marks.Mark.{Mark}
use Rattle.cue_report.specs.declared.range.Range.{Range}

-- the words of a mark
abbrev pub words : Curtain → List ℕ
words Up = codes "curtain up"
words Down = codes "curtain down"

-- what words say, if they are those of a mark
abbrev pub curtain_of : List ℕ → Option Curtain
curtain_of text =
    if same_text text (words Up) then Some Up
    else if same_text text (words Down) then Some Down else None

-- the marks of a file with its next line: it is a mark, or one more line that is none
abbrev pub with_mark : Option Mark → List Mark → List Mark
with_mark None marks = marks
with_mark (Some mark) marks = marks ++ mark ∷ []

abbrev pub unread_with : Option Mark → ℕ → ℕ
unread_with None unread = min (unread + 1) 18446744073709551615
unread_with (Some mark) unread = unread

-- the marks that are of a part of an evening
abbrev pub within : Range → ℤ → List Mark → List Mark
within range ahead marks = filter (λ mark. has range ahead mark.at) marks

-- a line has these words of the curtain after its date, and ends there
abbrev pub IsLineOf : Curtain → List ℕ → Type 0
IsLineOf curtain line = (date : List ℕ) × (line ≡ date ++ (codes " " ++ (words curtain ++ codes "\n")))

-- a line of the file was read: it is one mark more at the end, or one more line that is none
abbrev pub IsRead : List Mark → ℕ → List Mark → ℕ → Type 0
IsRead marks unread marks_then unread_then =
    (mark : Option Mark) × (marks_then ≡ with_mark mark marks) × (unread_then ≡ unread_with mark unread)
