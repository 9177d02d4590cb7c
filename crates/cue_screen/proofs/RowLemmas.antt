-- What a terminal has in its rows after the lines that have changed, and after those that are emptied.
use Rattle.std.proofs.Common.{◌≡◌, ◌≢◌, ◌∙◌, refl, sym, ap, arith, ℕ, zero, suc, ◌+◌, ◌-◌, ◌<◌, ◌≤◌, ◌^◌, inl, inr}
use Rattle.std.proofs.Common.{Bool, true, false, List, [], ◌∷◌, ◌++◌, length, get_or}
use Rattle.std.specs.Prelude.{◌==◌, if◌then◌else◌}
use Rattle.std.specs.List.{AllByRecursion}
use Rattle.std.proofs.Math.Nat.{le-min}
use Rattle.std.proofs.lemmas.Bool.{cases_lt, eq-eqb, false≢true, ne_eqb}
use Rattle.cue_show.proofs.TextLemmas.{same_text-itself, same_text-true}
use Rattle.cue_show.specs.Number.{same_text}
use Rattle.cue_screen.specs.Laws.{IsPlain}
use Rattle.cue_screen.specs.Pictures.{changed, drawn_in, emptied, row_text, stands}
use Rattle.cue_screen.specs.Terminal.{Awaited, Text, Window, given, with_row}
use Rattle.cue_screen.proofs.TerminalLemmas.{cut_window, given-append, row-given, row_in, row_in-is}

-- ---- what bytes leave

-- The terminal has these rows and awaits a text, wherever its cursor is.
pub record Leaves (height : ℕ) (rows : ℕ → List ℕ) (terminal : Awaited × Window) : Type 0 where
  pub row : ℕ
  pub column : ℕ
  pub is : terminal ≡ (Text, cut_window height rows row column)

-- what two parts leave, one after the other
pub leaves-append : (w : Window) (xs ys : List ℕ) (height : ℕ) (first rows : ℕ → List ℕ)
    → Leaves height first (given Text w xs)
    → ((r c : ℕ) → Leaves height rows (given Text (cut_window height first r c) ys))
    → Leaves height rows (given Text w (xs ++ ys))
leaves-append w xs ys height first rows a b =
    let last : Leaves height rows (given Text (cut_window height first a.row a.column) ys) = b a.row a.column in
    record {
      row = last.row;
      column = last.column;
      is = given-append Text w xs ys ∙ ap (λ (t : Awaited × Window). given t.0 t.1 ys) a.is ∙ last.is;
    }

-- ---- the lines that have changed

-- the rows once a line is in its row
abbrev pub drawn_row : List (List ℕ) → ℕ → List ℕ → (ℕ → List ℕ) → ℕ → List ℕ
drawn_row shown row line rows = if stands shown row line then rows else with_row row line rows

abbrev pub changed_rows : ℕ → List (List ℕ) → List (List ℕ) → (ℕ → List ℕ) → ℕ → List ℕ
changed_rows row shown [] rows = rows
changed_rows row shown (line ∷ lines) rows = changed_rows (row + 1) shown lines (drawn_row shown row line rows)

drawn-given : (shown : List (List ℕ)) (row : ℕ) (line : List ℕ) (height : ℕ) (rows : ℕ → List ℕ) (r c : ℕ)
    → row < height → height < 2 ^ 63 → IsPlain line
    → Leaves height (drawn_row shown row line rows) (given Text (cut_window height rows r c) (drawn_in shown row line))
drawn-given shown row line height rows r c within small plain = by (stands shown row line)
  where
    by : (t : Bool)
        → Leaves height (if t then rows else with_row row line rows)
        (given Text (cut_window height rows r c) (if t then [] else row_text row line))
    by true = record { row = r; column = c; is = refl }
    by false = record {
      row = row;
      column = length line;
      is = row-given row line height rows r c (omega arith) plain
          ∙ ap (λ k. (Text, cut_window height (with_row k line rows) k (length line))) (row_in-is height row within);
    }

pub changed-given : (lines shown : List (List ℕ)) (row height : ℕ) (rows : ℕ → List ℕ) (r c : ℕ)
    → row + length lines ≤ height → height < 2 ^ 63 → AllByRecursion IsPlain lines
    → Leaves height (changed_rows row shown lines rows)
    (given Text (cut_window height rows r c) (changed row shown lines))
changed-given [] shown row height rows r c within small plain = record { row = r; column = c; is = refl }
changed-given (line ∷ lines) shown row height rows r c within small plain =
    let first : ℕ → List ℕ = drawn_row shown row line rows in
    leaves-append (cut_window height rows r c) (drawn_in shown row line) (changed (row + 1) shown lines) height first
    (changed_rows (row + 1) shown lines first)
    (drawn-given shown row line height rows r c (omega arith) small plain.0)
    (λ r' c'. changed-given lines shown (row + 1) height first r' c' (omega arith) small plain.1)

-- ---- what each row has then

-- no other row is touched
drawn-other : (shown : List (List ℕ)) (row : ℕ) (line : List ℕ) (rows : ℕ → List ℕ) (r : ℕ) → r ≢ row
    → drawn_row shown row line rows r ≡ rows r
drawn-other shown row line rows r other = by (stands shown row line)
  where
    by : (t : Bool) → (if t then rows else with_row row line rows) r ≡ rows r
    by true = refl
    by false = ap (λ t. if t then line else rows r) (ne_eqb r row other)

pub changed-before : (lines shown : List (List ℕ)) (row : ℕ) (rows : ℕ → List ℕ) (r : ℕ) → r < row
    → changed_rows row shown lines rows r ≡ rows r
changed-before [] shown row rows r below = refl
changed-before (line ∷ lines) shown row rows r below =
    changed-before lines shown (row + 1) (drawn_row shown row line rows) r (omega arith)
    ∙ drawn-other shown row line rows r (λ e. omega arith)

pub changed-past : (lines shown : List (List ℕ)) (row : ℕ) (rows : ℕ → List ℕ) (r : ℕ) → row + length lines ≤ r
    → changed_rows row shown lines rows r ≡ rows r
changed-past [] shown row rows r past = refl
changed-past (line ∷ lines) shown row rows r past =
    changed-past lines shown (row + 1) (drawn_row shown row line rows) r (omega arith)
    ∙ drawn-other shown row line rows r (λ e. omega arith)

-- the rows have the lines that are shown, as far as the terminal has rows
abbrev pub Has : ℕ → List (List ℕ) → ℕ → (ℕ → List ℕ) → Type 0
Has height shown from rows = (r : ℕ) → from ≤ r → r < height → r < length shown → rows r ≡ get_or shown r []

-- a line that stands in its row is one that is shown
stands-true : (shown : List (List ℕ)) (row : ℕ) (line : List ℕ) → stands shown row line ≡ true
    → (row < length shown) × (get_or shown row [] ≡ line)
stands-true [] row line h = absurd (false≢true h)
stands-true (s ∷ ss) zero line h = (omega arith, same_text-true s line h)
stands-true (s ∷ ss) (suc row) line h =
    let rest : (row < length ss) × (get_or ss row [] ≡ line) = stands-true ss row line h in
    (omega (arith, rest.0), rest.1)

stands-same : (shown : List (List ℕ)) (row : ℕ) (line : List ℕ) → row < length shown → get_or shown row [] ≡ line
    → stands shown row line ≡ true
stands-same [] row line within same = absurd (omega arith)
stands-same (s ∷ ss) zero line within same = ap (λ l. same_text l line) same ∙ same_text-itself line
stands-same (s ∷ ss) (suc row) line within same = stands-same ss row line (omega arith) same

-- the row has its line
drawn-there : (shown : List (List ℕ)) (row : ℕ) (line : List ℕ) (height : ℕ) (rows : ℕ → List ℕ) → row < height
    → Has height shown row rows → drawn_row shown row line rows row ≡ line
drawn-there shown row line height rows within has = by (stands shown row line) refl
  where
    by : (t : Bool) → stands shown row line ≡ t → (if t then rows else with_row row line rows) row ≡ line
    by true is =
        let s : (row < length shown) × (get_or shown row [] ≡ line) = stands-true shown row line is in
        has row (omega arith) within s.0 ∙ s.1
    by false is = ap (λ t. if t then line else rows row) (eq-eqb row row refl)

drawn-has : (shown : List (List ℕ)) (row : ℕ) (line : List ℕ) (height : ℕ) (rows : ℕ → List ℕ)
    → Has height shown row rows → Has height shown (row + 1) (drawn_row shown row line rows)
drawn-has shown row line height rows has r from within is_shown =
    drawn-other shown row line rows r (λ e. omega arith) ∙ has r (omega arith) within is_shown

pub changed-at : (lines shown : List (List ℕ)) (row height : ℕ) (rows : ℕ → List ℕ) (i : ℕ)
    → row + length lines ≤ height → Has height shown row rows → i < length lines
    → changed_rows row shown lines rows (row + i) ≡ get_or lines i []
changed-at [] shown row height rows i fits has within = absurd (omega arith)
changed-at (line ∷ lines) shown row height rows zero fits has within =
    let first : ℕ → List ℕ = drawn_row shown row line rows in
    let here : row + zero ≡ row = omega arith in
    ap (changed_rows (row + 1) shown lines first) here
    ∙ changed-before lines shown (row + 1) first row (omega arith)
    ∙ drawn-there shown row line height rows (omega arith) has
changed-at (line ∷ lines) shown row height rows (suc i) fits has within =
    let first : ℕ → List ℕ = drawn_row shown row line rows in
    let later : row + suc i ≡ row + 1 + i = omega arith in
    ap (changed_rows (row + 1) shown lines first) later
    ∙ changed-at lines shown (row + 1) height first i (omega arith)
    (drawn-has shown row line height rows has) (omega arith)

-- a line that stays leaves its row as it is
drawn-same : (shown : List (List ℕ)) (row : ℕ) (line : List ℕ) (rows : ℕ → List ℕ) (r : ℕ) → row < length shown
    → get_or shown row [] ≡ line → drawn_row shown row line rows r ≡ rows r
drawn-same shown row line rows r within same =
    ap (λ t. (if t then rows else with_row row line rows) r) (stands-same shown row line within same)

pub changed-same : (lines shown : List (List ℕ)) (row : ℕ) (rows : ℕ → List ℕ) (i : ℕ) → i < length lines
    → row + i < length shown → get_or shown (row + i) [] ≡ get_or lines i []
    → changed_rows row shown lines rows (row + i) ≡ rows (row + i)
changed-same [] shown row rows i within is_shown same = absurd (omega arith)
changed-same (line ∷ lines) shown row rows zero within is_shown same =
    let first : ℕ → List ℕ = drawn_row shown row line rows in
    let here : row + zero ≡ row = omega arith in
    changed-before lines shown (row + 1) first (row + zero) (omega arith)
    ∙ drawn-same shown row line rows (row + zero) (omega arith) (ap (λ r. get_or shown r []) (sym here) ∙ same)
changed-same (line ∷ lines) shown row rows (suc i) within is_shown same =
    let first : ℕ → List ℕ = drawn_row shown row line rows in
    let later : row + suc i ≡ row + 1 + i = omega arith in
    ap (changed_rows (row + 1) shown lines first) later
    ∙ changed-same lines shown (row + 1) first i (omega arith) (omega arith)
    (ap (λ r. get_or shown r []) (sym later) ∙ same)
    ∙ ap first (sym later)
    ∙ drawn-other shown row line rows (row + suc i) (λ e. omega arith)

-- ---- the rows that are emptied

abbrev pub emptied_rows : (height row count : ℕ) → (ℕ → List ℕ) → ℕ → List ℕ
emptied_rows height row zero rows = rows
emptied_rows height row (suc count) rows =
    emptied_rows height (row + 1) count (with_row (row_in height row) [] rows)

pub emptied-given : (count row height : ℕ) (rows : ℕ → List ℕ) (r c : ℕ) → row + count < 2 ^ 63
    → Leaves height (emptied_rows height row count rows)
    (given Text (cut_window height rows r c) (emptied row count))
emptied-given zero row height rows r c small = record { row = r; column = c; is = refl }
emptied-given (suc count) row height rows r c small =
    let first : ℕ → List ℕ = with_row (row_in height row) [] rows in
    leaves-append (cut_window height rows r c) (row_text row []) (emptied (row + 1) count) height first
    (emptied_rows height (row + 1) count first)
    (record {
      row = row_in height row;
      column = 0;
      is = row-given row [] height rows r c (omega arith) tt;
    })
    (λ r' c'. emptied-given count (row + 1) height first r' c' (omega arith))

-- a row that is empty stays so
pub emptied-stays : (count row height : ℕ) (rows : ℕ → List ℕ) (r : ℕ) → rows r ≡ []
    → emptied_rows height row count rows r ≡ []
emptied-stays zero row height rows r none = none
emptied-stays (suc count) row height rows r none =
    emptied-stays count (row + 1) height (with_row (row_in height row) [] rows) r (by (r == row_in height row))
  where
    by : (t : Bool) → (if t then [] else rows r) ≡ []
    by true = refl
    by false = none

-- a row before them has what it had
pub emptied-before : (count row height : ℕ) (rows : ℕ → List ℕ) (r : ℕ) → r < row → r < height - 1
    → emptied_rows height row count rows r ≡ rows r
emptied-before zero row height rows r below within = refl
emptied-before (suc count) row height rows r below within =
    let later : r < row_in height row = le-min below within in
    emptied-before count (row + 1) height (with_row (row_in height row) [] rows) r (omega arith) within
    ∙ ap (λ t. if t then [] else rows r) (ne_eqb r (row_in height row) (λ e. omega arith))

pub emptied-at : (count row height : ℕ) (rows : ℕ → List ℕ) (r : ℕ) → row ≤ r → r < row + count → r < height
    → emptied_rows height row count rows r ≡ []
emptied-at zero row height rows r from below within = absurd (omega arith)
emptied-at (suc count) row height rows r from below within =
    let first : ℕ → List ℕ = with_row (row_in height row) [] rows in
    elim (cases_lt row r) [
      | inl later ↦ emptied-at count (row + 1) height first r (omega arith) (omega arith) within
      | inr here ↦
          let same : r ≡ row = omega arith in
          emptied-stays count (row + 1) height first r
          (ap (λ t. if t then [] else rows r)
          (eq-eqb r (row_in height row) (same ∙ sym (row_in-is height row (omega arith)))))
    ]
