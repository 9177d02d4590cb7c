-- What a terminal shows after a picture.
use Rattle.std.proofs.Common.{◌≡◌, ◌≢◌, ◌∙◌, refl, sym, ap, subst, arith, ℕ, ◌+◌, ◌-◌, ◌<◌, ◌≤◌, ◌^◌, inl, inr}
use Rattle.std.proofs.Common.{Bool, true, false, List, [], ◌++◌, append_assoc, length, get_or, take}
use Rattle.std.specs.Prelude.{◌==◌, min, if◌then◌else◌}
use Rattle.std.proofs.Math.Nat.{min-le_left}
use Rattle.std.proofs.lemmas.Bool.{cases_lt, eqb-false, le-ltb, ne_eqb}
use Rattle.std.proofs.lemmas.List.{get_or_past}
use Rattle.cue_screen.specs.Laws.{Fits, IsScreen, Shows}
use Rattle.cue_screen.specs.Pictures.{Seen, changed, emptied, is_whole, kept, lines_text, picture_of, place}
use Rattle.cue_screen.specs.Pictures.{uncut, wiped}
use Rattle.cue_screen.specs.Terminal.{Awaited, Text, Window, erased_from, given}
use Rattle.cue_screen.proofs.RowLemmas.{Has, Leaves, changed-at, changed-given, changed-past, changed-same}
use Rattle.cue_screen.proofs.RowLemmas.{changed_rows}
use Rattle.cue_screen.proofs.RowLemmas.{emptied-at, emptied-before, emptied-given, emptied-stays, emptied_rows}
use Rattle.cue_screen.proofs.RowLemmas.{leaves-append}
use Rattle.cue_screen.proofs.TerminalLemmas.{cut_window, given-append, place-given, row_in-is}

-- ---- the rows after a picture

-- the rows once all was erased, if all lines are drawn
abbrev pub wiped_rows : Bool → ℕ → (ℕ → List ℕ) → ℕ → List ℕ
wiped_rows whole height rows = if whole then erased_from (min (0 - 1) (height - 1)) 0 rows else rows

abbrev pub rows_after : Seen → List (List ℕ) → ℕ → (ℕ → List ℕ) → ℕ → List ℕ
rows_after s lines height rows =
    emptied_rows height (length lines) (length s.lines - length lines)
    (changed_rows 0 (kept s) lines (wiped_rows (is_whole s) height rows))

-- a window whose long texts go on
abbrev pub open_window : (height : ℕ) (rows : ℕ → List ℕ) (row column : ℕ) → Window
open_window height rows row column =
    record { height = height; rows = rows; row = row; column = column; is_cut = false }

wiped-given : (whole : Bool) (height : ℕ) (rows : ℕ → List ℕ) (r c : ℕ)
    → Leaves height (wiped_rows whole height rows) (given Text (cut_window height rows r c) (wiped whole))
wiped-given true height rows r c = record { row = min (0 - 1) (height - 1); column = 0; is = refl }
wiped-given false height rows r c = record { row = r; column = c; is = refl }

lines-given : (s : Seen) (lines : List (List ℕ)) (height : ℕ) (rows : ℕ → List ℕ) (r c : ℕ) → height < 2 ^ 63
    → Fits height lines → length s.lines < 2 ^ 63
    → Leaves height (rows_after s lines height rows)
    (given Text (cut_window height (wiped_rows (is_whole s) height rows) r c) (lines_text s lines))
lines-given s lines height rows r c small fits short =
    let first : ℕ → List ℕ = wiped_rows (is_whole s) height rows in
    let second : ℕ → List ℕ = changed_rows 0 (kept s) lines first in
    leaves-append (cut_window height first r c) (changed 0 (kept s) lines)
    (emptied (length lines) (length s.lines - length lines)) height second (rows_after s lines height rows)
    (changed-given lines (kept s) 0 height first r c (omega (arith, fits.0)) small fits.1)
    (λ r' c'. emptied-given (length s.lines - length lines) (length lines) height second r' c' (omega (arith, fits.0)))

end-given : (count height : ℕ) (rows : ℕ → List ℕ) (r c : ℕ) → count < height → height < 2 ^ 63
    → given Text (cut_window height rows r c) (uncut ++ place (count + 1)) ≡ (Text, open_window height rows count 0)
end-given count height rows r c within small =
    place-given count (open_window height rows r c) (omega arith)
    ∙ ap (λ k. (Text, open_window height rows k 0)) (row_in-is height count within)

pub picture-given : (s : Seen) (w : Window) (lines : List (List ℕ)) → IsScreen w → Fits w.height lines
    → length s.lines < 2 ^ 63
    → given Text w (picture_of s lines)
    ≡ (Text, open_window w.height (rows_after s lines w.height w.rows) (length lines) 0)
unfolding picture_of
picture-given s w lines small fits short =
    let height : ℕ = w.height in
    let after_all : ℕ → List ℕ = rows_after s lines height w.rows in
    let tail : List ℕ = uncut ++ place (length lines + 1) in
    let begun : Window = cut_window height w.rows w.row w.column in
    let drawn : Leaves height after_all (given Text begun (wiped (is_whole s) ++ lines_text s lines)) =
    leaves-append begun (wiped (is_whole s)) (lines_text s lines) height (wiped_rows (is_whole s) height w.rows)
    after_all (wiped-given (is_whole s) height w.rows w.row w.column)
    (λ r c. lines-given s lines height w.rows r c small fits short) in
    ap (given Text begun) (sym (append_assoc (wiped (is_whole s)) (lines_text s lines) tail))
    ∙ given-append Text begun (wiped (is_whole s) ++ lines_text s lines) tail
    ∙ ap (λ (t : Awaited × Window). given t.0 t.1 tail) drawn.is
    ∙ end-given (length lines) height after_all drawn.row drawn.column fits.0 small

-- ---- what each row has then

-- nothing stands in a window that was erased
erased-none : (height : ℕ) (rows : ℕ → List ℕ) (r : ℕ) → wiped_rows true height rows r ≡ []
erased-none height rows r =
    let top : ℕ = min (0 - 1) (height - 1) in
    let none : top ≤ 0 - 1 = min-le_left (0 - 1) (height - 1) in
    ap (λ t. if t then rows r else if r == top then take 0 (rows r) else []) (le-ltb r top (omega (arith, none)))
    ∙ by (r == top)
  where
    by : (t : Bool) → (if t then take 0 (rows r) else []) ≡ []
    by true = refl
    by false = refl

-- What is known of the rows before the lines are drawn: they have those that stay, and nothing stands below all lines.
pub record Stand (whole : Bool) (shown : List (List ℕ)) (height : ℕ) (rows : ℕ → List ℕ) : Type 0 where
  pub has : Has height (if whole then [] else shown) 0 (wiped_rows whole height rows)
  pub none : (r : ℕ) → r < height → length shown ≤ r → wiped_rows whole height rows r ≡ []

-- each row has its line, and the others have none
abbrev pub HasAll : ℕ → List (List ℕ) → (ℕ → List ℕ) → Type 0
HasAll height shown rows = (r : ℕ) → r < height → rows r ≡ get_or shown r []

stand-true : (shown : List (List ℕ)) (height : ℕ) (rows : ℕ → List ℕ) → Stand true shown height rows
stand-true shown height rows =
    record {
      has = λ r from within is_shown. absurd (omega arith);
      none = λ r within past. erased-none height rows r;
    }

stand-false : (shown : List (List ℕ)) (height : ℕ) (rows : ℕ → List ℕ) → HasAll height shown rows
    → Stand false shown height rows
stand-false shown height rows all =
    record {
      has = λ r from within is_shown. all r within;
      none = λ r within past. all r within ∙ get_or_past shown r [] past;
    }

pub stand-of : (s : Seen) (height : ℕ) (rows : ℕ → List ℕ) → (s.pictures ≢ 0 → HasAll height s.lines rows)
    → Stand (is_whole s) s.lines height rows
stand-of s height rows known = by (is_whole s) refl
  where
    by : (whole : Bool) → is_whole s ≡ whole → Stand whole s.lines height rows
    by true is = stand-true s.lines height rows
    by false is = stand-false s.lines height rows (known (eqb-false s.pictures 0 is))

pub rows-shown : (s : Seen) (lines : List (List ℕ)) (height : ℕ) (rows : ℕ → List ℕ) (r : ℕ) → length lines < height
    → Stand (is_whole s) s.lines height rows → r < height → rows_after s lines height rows r ≡ get_or lines r []
rows-shown s lines height rows r fits stand within =
    let first : ℕ → List ℕ = wiped_rows (is_whole s) height rows in
    let second : ℕ → List ℕ = changed_rows 0 (kept s) lines first in
    let count : ℕ = length s.lines - length lines in
    elim (cases_lt r (length lines)) [
      | inl line ↦
          let here : r ≡ 0 + r = omega arith in
          emptied-before count (length lines) height second r line (omega arith)
          ∙ ap second here
          ∙ changed-at lines (kept s) 0 height first r (omega arith) stand.has line
      | inr past ↦
          (elim (cases_lt r (length s.lines)) [
            | inl old ↦ emptied-at count (length lines) height second r past (omega arith) within
            | inr none ↦
                emptied-stays count (length lines) height second r
                (changed-past lines (kept s) 0 first r (omega arith) ∙ stand.none r within none)
          ]) ∙ sym (get_or_past lines r [] past)
    ]

-- ---- the terminal

-- it has the rows of the window before, and shows these lines
pub record Drawn (lines : List (List ℕ)) (w : Window) (terminal : Awaited × Window) : Type 0 where
  pub height : terminal.1.height ≡ w.height
  pub shows : Shows lines terminal

pub picture-shows : (s : Seen) (w : Window) (lines : List (List ℕ)) → IsScreen w → Fits w.height lines
    → length s.lines < 2 ^ 63 → (s.pictures ≢ 0 → HasAll w.height s.lines w.rows)
    → Drawn lines w (given Text w (picture_of s lines))
picture-shows s w lines small fits short known =
    let stand : Stand (is_whole s) s.lines w.height w.rows = stand-of s w.height w.rows known in
    subst (Drawn lines w) (sym (picture-given s w lines small fits short))
    (record {
      height = refl;
      shows = record {
        rows = λ r within. rows-shown s lines w.height w.rows r fits.0 stand within;
        row = refl;
        column = refl;
        goes_on = refl;
        awaits = refl;
      };
    })

-- a line that stays leaves its row as it is
pub picture-stays : (s : Seen) (w : Window) (lines : List (List ℕ)) (row : ℕ) → IsScreen w → Fits w.height lines
    → length s.lines < 2 ^ 63 → s.pictures ≢ 0 → row < length lines → row < length s.lines
    → get_or s.lines row [] ≡ get_or lines row []
    → (given Text w (picture_of s lines)).1.rows row ≡ w.rows row
picture-stays s w lines row small fits short later within is_shown same =
    let none : is_whole s ≡ false = ne_eqb s.pictures 0 later in
    let here : 0 + row ≡ row = omega arith in
    let count : ℕ = length s.lines - length lines in
    ap (λ (t : Awaited × Window). t.1.rows row) (picture-given s w lines small fits short)
    ∙ emptied-before count (length lines) w.height
    (changed_rows 0 (kept s) lines (wiped_rows (is_whole s) w.height w.rows)) row within (omega (arith, fits.0))
    ∙ ap (λ t. changed_rows 0 (if t then [] else s.lines) lines (wiped_rows t w.height w.rows) row) none
    ∙ ap (changed_rows 0 s.lines lines w.rows) (sym here)
    ∙ changed-same lines s.lines 0 w.rows row within (omega arith) (ap (λ r. get_or s.lines r []) here ∙ same)
    ∙ ap w.rows here
