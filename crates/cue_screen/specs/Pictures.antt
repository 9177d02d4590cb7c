-- What is written so that a terminal shows the next lines.
use Rattle.std.specs.Prelude.{ℕ, zero, suc, ◌+◌, ◌-◌, ◌==◌, Bool, false, if◌then◌else◌, nat_lt, List, [], ◌∷◌, ◌++◌}
use Rattle.std.specs.Prelude.{codes, decimal, length, map}
use Rattle.std.specs.List.{slice_get}
use Rattle.std.specs.Option.{option_map_or}
use Rattle.std.specs.Str.{chars, encode_utf8_all}
use Rattle.cue_show.specs.Number.{same_text}
use Rattle.cue_words.specs.Signs.{shown}
use Rattle.cue_screen.specs.declared.screen.TheConstants.{WHOLE}

-- the lines that were drawn last, and how many pictures there were since all lines were drawn
pub record Seen : Type 0 where
  pub lines : List (List ℕ)
  pub pictures : ℕ

-- nothing is drawn yet
abbrev pub unseen : Seen
unseen = record { lines = []; pictures = 0 }

-- a line as a terminal may get it: a question mark in place of each character that it might obey
abbrev pub clean : List ℕ → List ℕ
clean line = encode_utf8_all (map shown (chars line))

abbrev pub cleaned : List (List ℕ) → List (List ℕ)
cleaned lines = map clean lines

-- ---- what is written of a row

-- the cursor goes to the beginning of the row with this number, from 1
unfoldable pub place : ℕ → List ℕ
place number = (27 ∷ codes "[") ++ (decimal number ++ codes ";1H")

-- the row is erased, and has this line from then on; rows are counted from 0
unfoldable pub row_text : ℕ → List ℕ → List ℕ
row_text row line = place (row + 1) ++ ((27 ∷ codes "[2K") ++ line)

-- the line stands in this row already
abbrev pub stands : List (List ℕ) → ℕ → List ℕ → Bool
stands shown row line = option_map_or (λ s. same_text s line) (slice_get shown row) false

-- nothing is written of a line that stands in its row already
abbrev pub drawn_in : List (List ℕ) → ℕ → List ℕ → List ℕ
drawn_in shown row line = if stands shown row line then [] else row_text row line

-- each of the lines that does not stand in its row already, from this row on
abbrev pub changed : ℕ → List (List ℕ) → List (List ℕ) → List ℕ
changed row shown [] = []
changed row shown (line ∷ lines) = drawn_in shown row line ++ changed (row + 1) shown lines

-- so many rows, from this one on, have no line
abbrev pub emptied : (row count : ℕ) → List ℕ
emptied row zero = []
emptied row (suc count) = row_text row [] ++ emptied (row + 1) count

-- ---- what is written of a picture

-- long lines are cut; long lines go on
abbrev pub cut : List ℕ
cut = 27 ∷ codes "[?7l"

abbrev pub uncut : List ℕ
uncut = 27 ∷ codes "[?7h"

-- all lines are drawn: in the first picture, and in each twentieth
abbrev pub is_whole : Seen → Bool
is_whole s = s.pictures == 0

-- everything is erased, if all lines are drawn
abbrev pub wiped : Bool → List ℕ
wiped whole = if whole then (27 ∷ codes "[H") ++ (27 ∷ codes "[J") else []

-- the lines that stay: none if all are drawn
abbrev pub kept : Seen → List (List ℕ)
kept s = if is_whole s then [] else s.lines

-- the lines of a picture; the rows below them are empty
abbrev pub lines_text : Seen → List (List ℕ) → List ℕ
lines_text s lines =
    changed 0 (kept s) lines ++ emptied (length lines) (length s.lines - length lines)

-- a picture of these lines, with the cursor after the last one
unfoldable pub picture_of : Seen → List (List ℕ) → List ℕ
picture_of s lines =
    cut ++ (wiped (is_whole s) ++ (lines_text s lines ++ (uncut ++ place (length lines + 1))))

-- the pictures since all lines were drawn, with one more
abbrev pub counted : ℕ → ℕ
counted pictures = if nat_lt pictures (WHOLE - 1) then pictures + 1 else 0

-- what is drawn then
abbrev pub after : Seen → List (List ℕ) → Seen
after s lines = record { lines = lines; pictures = counted s.pictures }

-- all that is written of pictures, one after the other
abbrev pub written : Seen → List (List (List ℕ)) → List ℕ
written s [] = []
written s (lines ∷ pictures) = picture_of s lines ++ written (after s lines) pictures
