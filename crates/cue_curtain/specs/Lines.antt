-- The lines of a file of marks, and what is put after them.
use Rattle.std.specs.Prelude.{◌≡◌, ℕ, Bool, true, false, not, ◌==◌, if◌then◌else◌, List, [], ◌∷◌, ◌++◌}
use Rattle.std.specs.Prelude.{codes, Option, None, Some}
use Rattle.std.specs.List.{list_all}

-- ---- what a file has

abbrev pub is_line_feed : ℕ → Bool
is_line_feed b = b == 10

-- the line that has come so far, if there is one
abbrev pub ended : List ℕ → List (List ℕ)
ended [] = []
ended (b ∷ bs) = (b ∷ bs) ∷ []

-- the lines of these bytes, after such a beginning of a line; an empty line is none
abbrev pub lines_from : List ℕ → List ℕ → List (List ℕ)
lines_from line [] = ended line
lines_from line (b ∷ bs) =
    if is_line_feed b then ended line ++ lines_from [] bs else lines_from (line ++ b ∷ []) bs

abbrev pub lines_of : List ℕ → List (List ℕ)
lines_of bytes = lines_from [] bytes

-- its last byte; none of an empty file
abbrev pub last_from : ℕ → List ℕ → ℕ
last_from b [] = b
last_from b (next ∷ bs) = last_from next bs

abbrev pub last_of : List ℕ → Option ℕ
last_of [] = None
last_of (b ∷ bs) = Some (last_from b bs)

-- ---- what is put after it

-- the end of the last line, if that has none
abbrev pub seam : Option ℕ → List ℕ
seam None = []
seam (Some b) = if is_line_feed b then [] else 10 ∷ []

-- what is put after a file with this last byte, so that it has the text in a line of its own
abbrev pub put_after : Option ℕ → List ℕ → List ℕ
put_after last text = seam last ++ text

-- the file once a line was put after its others
abbrev pub with_line : List ℕ → List ℕ → List ℕ
with_line bytes line = bytes ++ put_after (last_of bytes) (line ++ codes "\n")

-- the same of lines, one after the other
abbrev pub with_lines : List ℕ → List (List ℕ) → List ℕ
with_lines bytes [] = bytes
with_lines bytes (line ∷ lines) = with_lines (with_line bytes line) lines

-- a line has something in it, and no line feed
abbrev pub is_line : List ℕ → Bool
is_line [] = false
is_line (b ∷ bs) = list_all (λ c. not (is_line_feed c)) (b ∷ bs)

-- Whatever a file has, and whatever is put after it, one line after the other: it has the lines of before, and then
-- each of these, once and in their order.
abbrev pub PressesAreKept : Type 0
PressesAreKept =
    (bytes : List ℕ) (lines : List (List ℕ)) → list_all is_line lines ≡ true
    → lines_of (with_lines bytes lines) ≡ lines_of bytes ++ lines
