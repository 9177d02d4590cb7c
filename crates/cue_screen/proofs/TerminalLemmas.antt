-- What a terminal makes of the sequences and of a text.
use Rattle.std.proofs.Common.{◌≡◌, ◌∙◌, refl, sym, ap, arith, ℕ, ◌+◌, ◌-◌, ◌*◌, ◌/◌, ◌%◌, ◌<◌, ◌^◌}
use Rattle.std.proofs.Common.{Bool, true, false, IsTrue, List, [], ◌∷◌, ◌++◌, length, take, drop, replicate}
use Rattle.std.proofs.Common.{codes, decimal}
use Rattle.std.proofs.Common.{append_assoc, append-nil}
use Rattle.std.specs.Prelude.{◌==◌, min, if◌then◌else◌, nat_le}
use Rattle.std.proofs.Math.Nat.{min-eq_left}
use Rattle.std.proofs.lemmas.Bool.{eq-eqb}
use Rattle.std.proofs.lemmas.Bool.Decides.{nat_tests}
use Rattle.std.proofs.lemmas.Fmt.{decimal_by_steps}
use Rattle.std.proofs.lemmas.List.{drop_all, length_push, take_at}
use Rattle.cue_screen.specs.Laws.{IsPlain}
use Rattle.cue_screen.specs.Pictures.{place, row_text}
use Rattle.cue_screen.specs.Terminal.{Awaited, Bracket, Sequence, Text, Window, done, given, is_digit, is_text}
use Rattle.cue_screen.specs.Terminal.{next, put}
use Rattle.cue_screen.specs.Terminal.{with_byte, with_row}

-- ---- one part after the other

pub given-append : (a : Awaited) (w : Window) (xs ys : List ℕ)
    → given a w (xs ++ ys) ≡ given (given a w xs).0 (given a w xs).1 ys
given-append a w [] ys = refl
given-append a w (x ∷ xs) ys = given-append (next a x) (done a x w) xs ys

-- ---- a number

-- a terminal that awaits a number reads the one that is written
abbrev ReadsNumber : ℕ → List ℕ → Type 0
ReadsNumber n digits =
    (is_private : Bool) (numbers : List ℕ) (w : Window)
    → given (Sequence is_private numbers 0) w digits ≡ (Sequence is_private numbers n, w)

digit-is : (n : ℕ) → n < 10 → is_digit (48 + n) ≡ true
digit-is n small = grind (arith, nat_tests)

digit-no_end : (n : ℕ) → n < 10 → nat_le 64 (48 + n) ≡ false
digit-no_end n small = grind (arith, nat_tests)

digit-given : (is_private : Bool) (numbers : List ℕ) (number n : ℕ) (w : Window) → n < 10
    → given (Sequence is_private numbers number) w ((48 + n) ∷ [])
    ≡ (Sequence is_private numbers (10 * number + n), w)
digit-given is_private numbers number n w small =
    let value : 48 + n - 48 ≡ n = omega arith in
    rw (digit-is n small, digit-no_end n small) (ap (λ k. (Sequence is_private numbers (10 * number + k), w)) value)

number-given : (n : ℕ) → n < 2 ^ 64 → ReadsNumber n (decimal n)
number-given n fits = decimal_by_steps ReadsNumber
    (λ m small is_private numbers w.
    let value : 10 * 0 + m ≡ m = omega arith in
    digit-given is_private numbers 0 m w small ∙ ap (λ k. (Sequence is_private numbers k, w)) value)
    (λ m ds ten more is_private numbers w.
    let value : 10 * (m / 10) + m % 10 ≡ m = omega arith in
    let last : List ℕ = (48 + m % 10) ∷ [] in
    given-append (Sequence is_private numbers 0) w ds last
    ∙ ap (λ (t : Awaited × Window). given t.0 t.1 last) (more is_private numbers w)
    ∙ digit-given is_private numbers (m / 10) (m % 10) w (omega arith)
    ∙ ap (λ k. (Sequence is_private numbers k, w)) value) n fits

-- ---- the cursor

-- the cursor is at the beginning of this row, or of the last one
abbrev pub at_row : ℕ → Window → Window
at_row row w = record { height = w.height; rows = w.rows; row = row; column = 0; is_cut = w.is_cut }

-- the row that a terminal of this height has for this one
abbrev pub row_in : (height row : ℕ) → ℕ
row_in height row = min row (height - 1)

pub row_in-is : (height row : ℕ) → row < height → row_in height row ≡ row
row_in-is height row within = min-eq_left (omega arith)

pub place-given : (row : ℕ) (w : Window) → row < 2 ^ 63
    → given Text w (place (row + 1)) ≡ (Text, at_row (row_in w.height row) w)
unfolding place
place-given row w small =
    let value : row + 1 - 1 ≡ row = omega arith in
    given-append (Sequence false [] 0) w (decimal (row + 1)) (codes ";1H")
    ∙ ap (λ (t : Awaited × Window). given t.0 t.1 (codes ";1H")) (number-given (row + 1) (omega arith) false [] w)
    ∙ ap (λ k. (Text, at_row (row_in w.height k) w)) value

-- ---- a text

-- a window whose long texts are cut
abbrev pub cut_window : (height : ℕ) (rows : ℕ → List ℕ) (row column : ℕ) → Window
cut_window height rows row column =
    record { height = height; rows = rows; row = row; column = column; is_cut = true }

-- a row has the text that it was given last
with_row-again : (row : ℕ) (a b : List ℕ) (rows : ℕ → List ℕ)
    → with_row row b (with_row row a rows) ≡ with_row row b rows
with_row-again row a b rows = λ i. λ r. by (r == row) (rows r) i
  where
    by : (t : Bool) (x : List ℕ) → (if t then b else (if t then a else x)) ≡ (if t then b else x)
    by true x = refl
    by false x = refl

-- a byte is put after a text
with_byte-after : (text : List ℕ) (b : ℕ) → with_byte (length text) b text ≡ text ++ b ∷ []
with_byte-after text b =
    let front : take (length text) (text ++ replicate (length text) 32) ≡ text =
    take_at text (replicate (length text) 32) (length text) refl in
    let rest : drop (length text + 1) text ≡ [] = drop_all (length text + 1) text (omega arith) in
    ap (λ l. l ++ (b ∷ drop (length text + 1) text)) front ∙ ap (λ l. text ++ (b ∷ l)) rest

text-next : (b : ℕ) → IsTrue (is_text b) → next Text b ≡ Text
text-next b plain =
    let other : (b == 27) ≡ false = grind (arith, nat_tests) in
    ap (λ t. if t then Bracket else Text) other

text-done : (b : ℕ) (text : List ℕ) (height row : ℕ) (rows : ℕ → List ℕ) → IsTrue (is_text b)
    → done Text b (cut_window height (with_row row text rows) row (length text))
    ≡ cut_window height (with_row row (text ++ b ∷ []) rows) row (length (text ++ b ∷ []))
text-done b text height row rows plain =
    let w : Window = cut_window height (with_row row text rows) row (length text) in
    let there : with_row row text rows row ≡ text = ap (λ t. if t then text else rows row) (eq-eqb row row refl) in
    ap (λ t. if t then put b w else w) plain
    ∙ ap (λ l.
    cut_window height (with_row row (with_byte (length text) b l) (with_row row text rows)) row (length text + 1)) there
    ∙ ap (λ l. cut_window height (with_row row l (with_row row text rows)) row (length text + 1))
    (with_byte-after text b)
    ∙ ap (λ f. cut_window height f row (length text + 1)) (with_row-again row text (text ++ b ∷ []) rows)
    ∙ ap (λ n. cut_window height (with_row row (text ++ b ∷ []) rows) row n) (sym (length_push text b))

-- a line goes on after the text of its row
text-given : (line text : List ℕ) (height row : ℕ) (rows : ℕ → List ℕ) → IsPlain line
    → given Text (cut_window height (with_row row text rows) row (length text)) line
    ≡ (Text, cut_window height (with_row row (text ++ line) rows) row (length (text ++ line)))
text-given [] text height row rows plain =
    ap (λ l. (Text, cut_window height (with_row row l rows) row (length l))) (sym (append-nil text))
text-given (b ∷ bs) text height row rows plain =
    let w : Window = cut_window height (with_row row text rows) row (length text) in
    ap (λ a. given a (done Text b w) bs) (text-next b plain.0)
    ∙ ap (λ v. given Text v bs) (text-done b text height row rows plain.0)
    ∙ text-given bs (text ++ b ∷ []) height row rows plain.1
    ∙ ap (λ l. (Text, cut_window height (with_row row l rows) row (length l))) (append_assoc text (b ∷ []) bs)

-- ---- a row

-- the row of the terminal for this one is erased, and has the line
pub row-given : (row : ℕ) (line : List ℕ) (height : ℕ) (rows : ℕ → List ℕ) (r c : ℕ) → row < 2 ^ 63 → IsPlain line
    → given Text (cut_window height rows r c) (row_text row line)
    ≡ (Text, cut_window height (with_row (row_in height row) line rows) (row_in height row) (length line))
unfolding row_text
row-given row line height rows r c small plain =
    let w : Window = cut_window height rows r c in
    let rest : List ℕ = (27 ∷ codes "[2K") ++ line in
    given-append Text w (place (row + 1)) rest
    ∙ ap (λ (t : Awaited × Window). given t.0 t.1 rest) (place-given row w small)
    ∙ text-given line [] height (row_in height row) rows plain
