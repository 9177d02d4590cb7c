-- Values that are separated by commas, as RFC 4180 has them.
use Rattle.std.specs.Prelude.{◌≡◌, ℕ, Bool, false, ◌==◌, ◌&&◌, ◌||◌, if◌then◌else◌, List, [], ◌∷◌, ◌++◌, codes, length, map}
use Rattle.std.specs.Prelude.{zero, suc, Option, Some, None, String, string_bytes}
use Rattle.std.specs.List.{flat_map}
use Rattle.std.specs.Str.{chars, encode_utf8_all}
use Rattle.std.specs.declared.alloc.Global.{Global}
use Rattle.cue_words.specs.Signs.{shown}

-- ---- what is written

-- a spreadsheet could carry it out: it begins with = + - or @
abbrev pub is_formula : List ℕ → Bool
is_formula [] = false
is_formula (c ∷ rest) = (c == 61) || ((c == 43) || ((c == 45) || (c == 64)))

-- a sign of a value: a quotation mark is doubled
abbrev pub doubled : ℕ → List ℕ
doubled s = if s == 34 then 34 ∷ 34 ∷ [] else s ∷ []

-- a character of a value: of one that a screen does not show a question mark
abbrev pub sign_of : ℕ → List ℕ
sign_of c = doubled (shown c)

-- the characters of a value
abbrev pub signs_of : List ℕ → List ℕ
signs_of text = encode_utf8_all (flat_map sign_of (chars text))

-- how a value begins: with a quotation mark, and with an apostrophe if a spreadsheet could carry it out
abbrev pub opening : List ℕ → List ℕ
opening text = if is_formula text then codes "\"'" else codes "\""

-- a value stands between quotation marks
unfoldable pub value_of : List ℕ → List ℕ
value_of text = opening text ++ (signs_of text ++ codes "\"")

-- values with commas between them, after what stands before the first one
abbrev pub values_of : List ℕ → List (String Global) → List ℕ
values_of front [] = []
values_of front (cell ∷ rest) = front ++ (value_of (string_bytes cell) ++ values_of (codes ",") rest)

-- a row: its values, with commas between them, and carriage return and line feed
unfoldable pub row_of : List (String Global) → List ℕ
row_of cells = values_of [] cells ++ codes "\r\n"

-- ---- what a reader finds

-- the next sign belongs to the value that was found
abbrev pub with_sign : ℕ → List ℕ × List ℕ → List ℕ × List ℕ
with_sign c found = (c ∷ found.0, found.1)

-- what a reader finds after a quotation mark: the value, in which a doubled one stands for one, up to a single one; and
-- what is left after that
abbrev pub value_in : List ℕ → List ℕ × List ℕ
value_in [] = ([], [])
value_in (c ∷ []) = if c == 34 then ([], []) else (c ∷ [], [])
value_in (c ∷ d ∷ rest) =
    if c == 34 then if d == 34 then with_sign 34 (value_in rest) else ([], d ∷ rest)
    else with_sign c (value_in (d ∷ rest))

-- the values that a reader finds, after this one
abbrev pub with_value : List ℕ → Option (List (List ℕ) × List ℕ) → Option (List (List ℕ) × List ℕ)
with_value value None = None
with_value value (Some found) = Some (value ∷ found.0, found.1)

-- what a reader finds after a value: after a comma the next value, after the end of a row no more
abbrev pub values_after : (List ℕ → Option (List (List ℕ) × List ℕ)) → List ℕ → Option (List (List ℕ) × List ℕ)
values_after more [] = None
values_after more (c ∷ []) = None
values_after more (c ∷ d ∷ rest) =
    if (c == 44) && (d == 34) then more rest else if (c == 13) && (d == 10) then Some ([], rest) else None

-- what a reader of so many values at most finds after a quotation mark: the values of a row, and what is left after it
abbrev pub values_in : ℕ → List ℕ → Option (List (List ℕ) × List ℕ)
values_in zero text = None
values_in (suc most) text = let found = value_in text in with_value found.0 (values_after (values_in most) found.1)

-- a reader of a row: it begins with a quotation mark
abbrev pub read_row : ℕ → List ℕ → Option (List (List ℕ) × List ℕ)
read_row most [] = None
read_row most (c ∷ text) = if c == 34 then values_in most text else None

-- what a reader has of a value: its characters as a screen shows them; what a spreadsheet could carry out has an
-- apostrophe before it
abbrev pub read_value : List ℕ → List ℕ
read_value text = (if is_formula text then codes "'" else []) ++ encode_utf8_all (map shown (chars text))

-- Whatever the values of a row, and whatever stands after it: a reader finds each of them, and no other, and goes on
-- after the row.
pub record CellsAreReadBack : Type 0 where
  pub read : (first : String Global) (others : List (String Global)) (rest : List ℕ) → read_row (length (first ∷ others)) (row_of (first ∷ others) ++ rest) ≡ Some (map (λ cell. read_value (string_bytes cell)) (first ∷ others), rest)
