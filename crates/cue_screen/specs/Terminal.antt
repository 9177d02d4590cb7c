-- A terminal, as far as the board needs it: rows of text, and what the sequences that are written do to them (ECMA-48,
-- fifth edition; DEC's private mode 7, as every terminal has it). Any other sequence is passed over.
use Rattle.std.specs.Prelude.{ℕ, ◌+◌, ◌-◌, ◌*◌, ◌==◌, min, Bool, true, false, not, ◌&&◌, if◌then◌else◌, nat_le, nat_lt}
use Rattle.std.specs.Prelude.{List, [], ◌∷◌, ◌++◌, take, drop, replicate}
use Rattle.std.specs.Str.{byte}

-- ---- what it shows

-- The text of each row, which are counted from the top, from 0; the place of the next sign; and whether a text that is
-- longer than its row is cut at the edge, or goes on in the next one.
pub record Window : Type 0 where
  pub height : ℕ
  pub rows : ℕ → List ℕ
  pub row : ℕ
  pub column : ℕ
  pub is_cut : Bool

-- the rows, of which one has another text
abbrev pub with_row : ℕ → List ℕ → (ℕ → List ℕ) → ℕ → List ℕ
with_row row text rows r = if r == row then text else rows r

-- a text with this byte at its place: over what stands there, or after it, with spaces between
abbrev pub with_byte : ℕ → ℕ → List ℕ → List ℕ
with_byte column b text = take column (text ++ replicate column 32) ++ (b ∷ drop (column + 1) text)

-- A byte of a text is put at the cursor. While a long text goes on in the next row, where it stands is not known here:
-- so it is taken as lost.
abbrev pub put : ℕ → Window → Window
put b w =
    if w.is_cut
    then record {
      height = w.height;
      rows = with_row w.row (with_byte w.column b (w.rows w.row)) w.rows;
      row = w.row;
      column = w.column + 1;
      is_cut = w.is_cut;
    }
    else w

-- ---- what the sequences do

-- the cursor goes to this row and column, from 1; below the last row there is none (CUP, 8.3.21)
abbrev pub move : (row column : ℕ) → Window → Window
move row column w =
    record {
      height = w.height;
      rows = w.rows;
      row = min (row - 1) (w.height - 1);
      column = column - 1;
      is_cut = w.is_cut;
    }

abbrev pub moved : List ℕ → Window → Window
moved [] w = move 1 1 w
moved (row ∷ []) w = move row 1 w
moved (row ∷ column ∷ more) w = move row column w

-- all from the cursor on is erased (ED with 0, 8.3.39)
abbrev pub erased_from : ℕ → ℕ → (ℕ → List ℕ) → ℕ → List ℕ
erased_from row column rows r =
    if nat_lt r row then rows r else if r == row then take column (rows r) else []

abbrev pub erase_page : Window → Window
erase_page w =
    record {
      height = w.height;
      rows = erased_from w.row w.column w.rows;
      row = w.row;
      column = w.column;
      is_cut = w.is_cut;
    }

-- the row of the cursor is erased (EL with 2, 8.3.41)
abbrev pub erase_line : Window → Window
erase_line w =
    record {
      height = w.height;
      rows = with_row w.row [] w.rows;
      row = w.row;
      column = w.column;
      is_cut = w.is_cut;
    }

-- long texts are cut, or go on (DECAWM)
abbrev pub cut : Bool → Window → Window
cut is_cut w = record { height = w.height; rows = w.rows; row = w.row; column = w.column; is_cut = is_cut }

-- this number stands alone
abbrev pub is_only : ℕ → List ℕ → Bool
is_only n [] = false
is_only n (number ∷ []) = number == n
is_only n (number ∷ other ∷ more) = false

-- the sequence ends with this byte, and has this number alone
abbrev pub has : ℕ → List ℕ → (last b : ℕ) → Bool
has n numbers last b = last == b && is_only n numbers

-- the sequence with these numbers that ends with this byte
abbrev pub obeyed : ℕ → Bool → List ℕ → Window → Window
obeyed last true numbers w =
    if has 7 numbers last (byte "l") then cut true w
    else if has 7 numbers last (byte "h") then cut false w else w
obeyed last false numbers w =
    if last == byte "H" then moved numbers w
    else if has 0 numbers last (byte "J") then erase_page w
    else if has 2 numbers last (byte "K") then erase_line w else w

-- ---- byte by byte

-- what comes next: a text; what follows an escape; or a sequence, with the numbers so far, and whether it is private
pub data Awaited : Type 0 where
  Text : Awaited
  Bracket : Awaited
  Sequence : (is_private : Bool) (numbers : List ℕ) (number : ℕ) → Awaited

-- a byte of a text, which is no control
abbrev pub is_text : ℕ → Bool
is_text b = nat_le 32 b && not (b == 127)

abbrev pub is_digit : ℕ → Bool
is_digit b = nat_le 48 b && nat_le b 57

-- what comes after this byte
abbrev pub after_text : ℕ → Awaited
after_text b = if b == 27 then Bracket else Text

abbrev pub after_escape : ℕ → Awaited
after_escape b = if b == byte "[" then Sequence false [] 0 else Text

abbrev pub after_number : Bool → List ℕ → (number b : ℕ) → Awaited
after_number is_private numbers number b =
    if is_digit b then Sequence is_private numbers (10 * number + (b - 48))
    else if b == byte ";" then Sequence is_private (numbers ++ number ∷ []) 0
    else if b == byte "?" then Sequence true numbers number else Text

abbrev pub next : Awaited → ℕ → Awaited
next Text b = after_text b
next Bracket b = after_escape b
next (Sequence is_private numbers number) b = after_number is_private numbers number b

-- what this byte does: one from 64 on ends a sequence
abbrev pub done : Awaited → ℕ → Window → Window
done Text b w = if is_text b then put b w else w
done Bracket b w = w
done (Sequence is_private numbers number) b w =
    if nat_le 64 b then obeyed b is_private (numbers ++ number ∷ []) w else w

-- the terminal after these bytes
abbrev pub given : Awaited → Window → List ℕ → Awaited × Window
given a w [] = (a, w)
given a w (b ∷ bs) = given (next a b) (done a b w) bs
