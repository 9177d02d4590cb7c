-- What the loops have written so far, and what is left.
use Rattle.std.proofs.Common.{◌≡◌, ◌∙◌, sym, ap, arith, ℕ, suc, ◌+◌, ◌-◌, ◌<◌, ◌≤◌, List, [], ◌++◌, length, get_or}
use Rattle.std.proofs.Common.{drop, map}
use Rattle.std.proofs.Common.{append_assoc, append-nil, string_bytes}
use Rattle.std.specs.Prelude.{String}
use Rattle.std.specs.declared.alloc.Global.{Global}
use Rattle.std.proofs.lemmas.List.{at_drop_all, at_drop_more}
use Rattle.cue_screen.specs.Pictures.{changed, drawn_in, emptied, row_text}

-- ---- the lines that have changed

-- what was written, and what will be of the lines that are left, is all
abbrev pub LinesLeft : List (List ℕ) → ℕ → List (String Global) → (text whole : List ℕ) → Type 0
LinesLeft shown row lines text whole = text ++ changed row shown (map string_bytes (drop row lines)) ≡ whole

pub lines-more : (shown : List (List ℕ)) (row : ℕ) (lines : List (String Global)) (line : String Global)
    (text new whole : List ℕ) → row < length lines
    → new ≡ text ++ drawn_in shown row (string_bytes (get_or lines row line)) → LinesLeft shown row lines text whole
    → LinesLeft shown (row + 1) lines new whole
lines-more shown row lines line text new whole within grown left =
    let rest : List ℕ = changed (row + 1) shown (map string_bytes (drop (row + 1) lines)) in
    ap (λ t. t ++ rest) grown
    ∙ append_assoc text (drawn_in shown row (string_bytes (get_or lines row line))) rest
    ∙ ap (λ t. text ++ t) (sym (at_drop_more (λ l. changed row shown (map string_bytes l)) lines row line within))
    ∙ left

pub lines-done : (shown : List (List ℕ)) (row : ℕ) (lines : List (String Global)) (text whole : List ℕ)
    → length lines ≤ row → LinesLeft shown row lines text whole → text ≡ whole
lines-done shown row lines text whole past left =
    sym (append-nil text)
    ∙ ap (λ t. text ++ t) (sym (at_drop_all (λ l. changed row shown (map string_bytes l)) lines row past))
    ∙ left

-- ---- the rows that are emptied

abbrev pub RowsLeft : (row at count : ℕ) → (text whole : List ℕ) → Type 0
RowsLeft row at count text whole = text ++ emptied (row + at) (count - at) ≡ whole

pub rows-more : (row at count : ℕ) (text new whole : List ℕ) → at < count → new ≡ text ++ row_text (row + at) []
    → RowsLeft row at count text whole → RowsLeft row (at + 1) count new whole
rows-more row at count text new whole within grown left =
    let next : row + (at + 1) ≡ row + at + 1 = omega arith in
    let one_less : suc (count - (at + 1)) ≡ count - at = omega arith in
    let here : List ℕ = row_text (row + at) [] in
    ap (λ t. t ++ emptied (row + (at + 1)) (count - (at + 1))) grown
    ∙ append_assoc text here (emptied (row + (at + 1)) (count - (at + 1)))
    ∙ ap (λ r. text ++ (here ++ emptied r (count - (at + 1)))) next
    ∙ ap (λ n. text ++ emptied (row + at) n) one_less
    ∙ left

pub rows-done : (row at count : ℕ) (text whole : List ℕ) → count ≤ at → RowsLeft row at count text whole → text ≡ whole
rows-done row at count text whole past left =
    let none : 0 ≡ count - at = omega arith in
    sym (append-nil text) ∙ ap (λ n. text ++ emptied (row + at) n) none ∙ left
