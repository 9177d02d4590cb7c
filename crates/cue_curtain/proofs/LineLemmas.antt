-- A line that is put after a file is one of its lines, and the others stay.
use Rattle.std.proofs.Common.{◌≡◌, ◌∙◌, refl, sym, ap, subst, ℕ, Bool, true, false, List, [], ◌∷◌, ◌++◌, codes}
use Rattle.std.proofs.Common.{append_assoc, append-nil}
use Rattle.std.specs.Prelude.{not, if◌then◌else◌}
use Rattle.std.specs.List.{list_all}
use Rattle.std.proofs.lemmas.Bool.{eqb-true, false≢true, not-true}
use Rattle.cue_show.proofs.TestLemmas.{both}
use Rattle.cue_curtain.specs.Lines.{PressesAreKept, ended, is_line, is_line_feed, last_from, last_of, lines_from}
use Rattle.cue_curtain.specs.Lines.{lines_of}
use Rattle.cue_curtain.specs.Lines.{put_after, with_line}

-- ---- one part after the other

-- a line feed ends the line before it
lines-then : (line xs ys : List ℕ) → lines_from line (xs ++ 10 ∷ ys) ≡ lines_from line xs ++ lines_of ys
lines-then line [] ys = refl
lines-then line (b ∷ bs) ys =
    by (is_line_feed b) (lines-then [] bs ys) (lines-then (line ++ b ∷ []) bs ys)
  where
    by : (t : Bool) → lines_from [] (bs ++ 10 ∷ ys) ≡ lines_from [] bs ++ lines_of ys
        → lines_from (line ++ b ∷ []) (bs ++ 10 ∷ ys) ≡ lines_from (line ++ b ∷ []) bs ++ lines_of ys
        → (if t then ended line ++ lines_from [] (bs ++ 10 ∷ ys) else lines_from (line ++ b ∷ []) (bs ++ 10 ∷ ys))
        ≡ (if t then ended line ++ lines_from [] bs else lines_from (line ++ b ∷ []) bs) ++ lines_of ys
    by true next on =
        ap (λ l. ended line ++ l) next ∙ sym (append_assoc (ended line) (lines_from [] bs) (lines_of ys))
    by false next on = on

-- bytes that end with a line feed have no line that goes on
lines-whole : (line : List ℕ) (b : ℕ) (bs ys : List ℕ) → last_from b bs ≡ 10
    → lines_from line ((b ∷ bs) ++ ys) ≡ lines_from line (b ∷ bs) ++ lines_of ys
lines-whole line b [] ys e =
    subst (λ x. lines_from line (x ∷ ys) ≡ lines_from line (x ∷ []) ++ lines_of ys) (sym e)
    (ap (λ l. l ++ lines_of ys) (sym (append-nil (ended line))))
lines-whole line b (next ∷ bs) ys e =
    by (is_line_feed b) (lines-whole [] next bs ys e) (lines-whole (line ++ b ∷ []) next bs ys e)
  where
    by : (t : Bool) → lines_from [] ((next ∷ bs) ++ ys) ≡ lines_from [] (next ∷ bs) ++ lines_of ys
        → lines_from (line ++ b ∷ []) ((next ∷ bs) ++ ys) ≡ lines_from (line ++ b ∷ []) (next ∷ bs) ++ lines_of ys
        → (if t then ended line ++ lines_from [] ((next ∷ bs) ++ ys)
        else lines_from (line ++ b ∷ []) ((next ∷ bs) ++ ys))
        ≡ (if t then ended line ++ lines_from [] (next ∷ bs) else lines_from (line ++ b ∷ []) (next ∷ bs))
        ++ lines_of ys
    by true later on =
        ap (λ l. ended line ++ l) later ∙ sym (append_assoc (ended line) (lines_from [] (next ∷ bs)) (lines_of ys))
    by false later on = on

-- what is put after bytes begins a line of its own
lines-after : (bytes text : List ℕ)
    → lines_of (bytes ++ put_after (last_of bytes) text) ≡ lines_of bytes ++ lines_of text
lines-after [] text = refl
lines-after (b ∷ bs) text = by (is_line_feed (last_from b bs)) refl
  where
    by : (t : Bool) → is_line_feed (last_from b bs) ≡ t
        → lines_of ((b ∷ bs) ++ ((if t then [] else 10 ∷ []) ++ text)) ≡ lines_of (b ∷ bs) ++ lines_of text
    by true e = lines-whole [] b bs text (eqb-true (last_from b bs) 10 e)
    by false e = lines-then [] (b ∷ bs) text

-- ---- one line

line-rest : (line bs : List ℕ) → list_all (λ c. not (is_line_feed c)) bs ≡ true
    → lines_from line (bs ++ codes "\n") ≡ ended (line ++ bs)
line-rest line [] h = append-nil (ended line) ∙ ap ended (sym (append-nil line))
line-rest line (b ∷ bs) h =
    let s : (not (is_line_feed b) ≡ true) × (list_all (λ c. not (is_line_feed c)) bs ≡ true) =
    both (not (is_line_feed b)) (list_all (λ c. not (is_line_feed c)) bs) h in
    ap (λ t.
    if t then ended line ++ lines_from [] (bs ++ codes "\n") else lines_from (line ++ b ∷ []) (bs ++ codes "\n"))
    (not-true (is_line_feed b) s.0)
    ∙ line-rest (line ++ b ∷ []) bs s.1
    ∙ ap ended (append_assoc line (b ∷ []) bs)

line-alone : (line : List ℕ) → is_line line ≡ true → lines_of (line ++ codes "\n") ≡ line ∷ []
line-alone [] h = absurd (false≢true h)
line-alone (b ∷ bs) h = line-rest [] (b ∷ bs) h

one-press : (bytes line : List ℕ) → is_line line ≡ true → lines_of (with_line bytes line) ≡ lines_of bytes ++ line ∷ []
one-press bytes line h = lines-after bytes (line ++ codes "\n") ∙ ap (λ l. lines_of bytes ++ l) (line-alone line h)

-- ---- all of them

pub presses-are-kept : PressesAreKept
presses-are-kept bytes [] are = sym (append-nil (lines_of bytes))
presses-are-kept bytes (line ∷ lines) are =
    let s : (is_line line ≡ true) × (list_all is_line lines ≡ true) =
    both (is_line line) (list_all is_line lines) are in
    presses-are-kept (with_line bytes line) lines s.1
    ∙ ap (λ l. l ++ lines) (one-press bytes line s.0)
    ∙ append_assoc (lines_of bytes) (line ∷ []) lines
