-- Texts in columns of a terminal.
use Rattle.std.specs.Prelude.{◌≡◌, ℕ, ◌≤◌, ◌-◌, ◌*◌, Bool, false, ◌&&◌, nat_le, IsTrue, unwrap_or, if◌then◌else◌}
use Rattle.std.specs.Prelude.{List, [], ◌∷◌, length, All, String, string_bytes}
use Rattle.std.specs.declared.alloc.Global.{Global}
use Rattle.std.specs.Char.{len_utf8}
use Rattle.std.specs.List.{sum_by}
use Rattle.std.specs.Str.{chars, encode_utf8_all}
use Rattle.unicode_width.specs.Width.{char_width}
use Rattle.cue_words.specs.Signs.{is_shown, shown}
use Rattle.cue_columns.specs.declared.columns.TheConstants.{BYTES, COLUMNS}

-- the columns that a character takes
unfoldable pub width_of : ℕ → ℕ
width_of c = unwrap_or (char_width false c) 1

-- the character as a terminal may get it
unfoldable pub sign_of : ℕ → ℕ
sign_of c = shown c

-- the character fits into so many columns and so many bytes
abbrev pub has_room : ℕ → ℕ → ℕ → Bool
has_room left room c = nat_le (width_of c) left && nat_le (len_utf8 c) room

-- as many of the characters as fit, from the first one on
abbrev pub fit_signs : ℕ → ℕ → List ℕ → List ℕ
fit_signs left room [] = []
fit_signs left room (c ∷ cs) =
    if has_room left room (sign_of c)
    then sign_of c ∷ fit_signs (left - width_of (sign_of c)) (room - len_utf8 (sign_of c)) cs
    else []

-- as much of a text as fits into so many columns, and into so many bytes for each of them
unfoldable pub fit_of : ℕ → List ℕ → List ℕ
fit_of columns text = encode_utf8_all (fit_signs columns (BYTES * columns) (chars text))

-- The text has so many columns at most, and so many bytes for each of them; and each of its characters is one that a
-- terminal shows: no control, no turn of direction, nothing hidden.
pub record IsFit (columns : ℕ) (text : List ℕ) : Type 0 where
  pub signs : List ℕ
  pub spelled : text ≡ encode_utf8_all signs
  pub narrow : sum_by width_of signs ≤ columns
  pub short : length text ≤ BYTES * columns
  pub safe : All (λ c. IsTrue (is_shown c)) signs

-- each line fits into the columns of a terminal
abbrev pub AreFit : List (String Global) → Type 0
AreFit lines = All (λ line. IsFit COLUMNS (string_bytes line)) lines

-- If each of the lines that stood there fits, each of those that stand there now does.
pub record Keeps (before now : List (String Global)) : Type 0 where
  pub fit : AreFit before → AreFit now
