-- Pieces of a text: what was put together is taken apart again.
use Rattle.std.proofs.Common.{◌≡◌, ◌∙◌, ℕ, ◌+◌, ◌-◌, ◌*◌, ◌/◌, ◌%◌, ◌^◌, ◌<◌, ◌≤◌, min, Bool, true, false, not, ◌==◌, ◌&&◌, cond}
use Rattle.std.proofs.Common.{List, [], ◌∷◌, ◌++◌, length, take, drop, Option, Some, None}
use Rattle.std.proofs.Common.{refl, sym, ap, append_assoc, arith, ltb}
use Rattle.std.specs.Char.{is_ascii_digit}
use Rattle.std.specs.Prelude.{codes, decimal}
use Rattle.std.specs.List.{fold, list_all, position_or_len}
use Rattle.std.specs.Option.{unwrap_or}
use Rattle.std.proofs.lemmas.Bool.{ltb-false, lt-ltb}
use Rattle.std.proofs.lemmas.Bool.Decides.{nat_tests}
use Rattle.std.proofs.lemmas.Fmt.{decimal_by_steps, decimal_nonempty}
use Rattle.std.proofs.lemmas.List.{take-append-drop}
use Rattle.std.proofs.lemmas.Option.{none-some, same_Some}
use Rattle.std.proofs.lemmas.List.Folds.{list_all-append}
use Rattle.std.proofs.lemmas.List.Sums.{prefix_len-le-length, fold_push}
use Rattle.std.proofs.Math.Seq.{drop-append_seam, take-append_seam}
use Rattle.cue_show.proofs.TestLemmas.{both}
use Rattle.cue_show.proofs.TextLemmas.{same_text-itself, same_text-true}
use Rattle.cue_show.specs.Number.{same_text}
use Rattle.cue_relay.specs.Pieces.{after, end_of, is_of_line, line_at, next_number, number_after, number_at, number_of}
use Rattle.cue_relay.specs.Pieces.{word_after}
use Rattle.cue_relay.specs.Status.{counted}

-- ---- words

pub after-words : (words rest : List ℕ) → after words (words ++ rest) ≡ Some rest
unfolding after
after-words words rest =
    rw (take-append_seam words rest, drop-append_seam words rest, same_text-itself words) refl

passed : {A : Type 0} (b : Bool) (x y : A) → cond b (Some x) None ≡ Some y → (b ≡ true) × (x ≡ y)
passed true x y h = (refl, same_Some x y h)
passed false x y h = absurd (none-some y h)

-- what follows words stands after them
pub words-after : (words text rest : List ℕ) → after words text ≡ Some rest → text ≡ words ++ rest
unfolding after
words-after words text rest h =
    let n : ℕ = length words in
    let p = passed (same_text (take n text) words) (drop n text) rest h in
    sym (take-append-drop n text)
    ∙ ap (λ (x : List ℕ). x ++ drop n text) (same_text-true (take n text) words p.0)
    ∙ ap (λ (x : List ℕ). words ++ x) p.1

-- ---- what passes a test, at the front

-- the first byte passes
abbrev pub starts : (ℕ → Bool) → List ℕ → Bool
starts p [] = false
starts p (b ∷ bs) = p b

place-is : (p : ℕ → Bool) (front rest : List ℕ) → list_all p front ≡ true → starts p rest ≡ false
    → position_or_len (λ x. not (p x)) (front ++ rest) ≡ length front
place-is p [] [] all stops = refl
place-is p [] (b ∷ bs) all stops = rw stops refl
place-is p (b ∷ front) rest all stops =
    let parts = both (p b) (list_all p front) all in
    rw (parts.0, place-is p front rest parts.1 stops) (omega arith)

place-or-length : (n l : ℕ) → n ≤ l → unwrap_or (cond (ltb n l) (Some n) None) l ≡ n
place-or-length n l low = by (ltb n l) refl
  where
    by : (b : Bool) → ltb n l ≡ b → unwrap_or (cond b (Some n) None) l ≡ n
    by true e = refl
    by false e = omega (arith, ltb-false n l e)

pub end_of-is : (p : ℕ → Bool) (front rest : List ℕ) → list_all p front ≡ true → starts p rest ≡ false
    → end_of p (front ++ rest) ≡ length front
end_of-is p front rest all stops =
    place-or-length (position_or_len (λ x. not (p x)) (front ++ rest)) (length (front ++ rest))
    (prefix_len-le-length (λ x. not (not (p x))) (front ++ rest))
    ∙ place-is p front rest all stops

-- ---- numbers

digits-decimal : (n : ℕ) → n < 2 ^ 64 → list_all is_ascii_digit (decimal n) ≡ true
digits-decimal n fits = decimal_by_steps (λ m ds. list_all is_ascii_digit ds ≡ true)
    (λ m low. grind (arith, nat_tests))
    (λ m ds ten all. list_all-append is_ascii_digit ds ((48 + m % 10) ∷ [])
    ∙ (let digit : is_ascii_digit (48 + m % 10) ≡ true = grind (arith, nat_tests) in rw (all, digit) refl)) n fits

number_of-decimal : (n : ℕ) → n < 2 ^ 64 → number_of (decimal n) ≡ n
number_of-decimal n fits = decimal_by_steps (λ m ds. m < 2 ^ 64 → number_of ds ≡ m)
    (λ m low small. omega arith)
    (λ m ds ten more small.
    let front : number_of ds ≡ m / 10 = more (omega arith) in
    fold_push next_number 0 ds (48 + m % 10) ∙ ap (λ k. next_number k (48 + m % 10)) front ∙ omega arith) n fits fits

-- a number is read as what was written, if no digit follows
pub number_at-decimal : (n : ℕ) (rest : List ℕ) → n < 2 ^ 64 → starts is_ascii_digit rest ≡ false
    → number_at (decimal n ++ rest) ≡ (n, rest)
unfolding number_at
number_at-decimal n rest fits stops =
    rw (
      end_of-is is_ascii_digit (decimal n) rest (digits-decimal n fits) stops,
      take-append_seam (decimal n) rest,
      drop-append_seam (decimal n) rest,
      number_of-decimal n fits,
    ) refl

-- a number begins with a digit
pub starts-decimal : (n : ℕ) (rest : List ℕ) → n < 2 ^ 64 → starts is_ascii_digit (decimal n ++ rest) ≡ true
starts-decimal n rest fits = by (decimal n) (digits-decimal n fits) (decimal_nonempty n fits)
  where
    by : (ds : List ℕ) → list_all is_ascii_digit ds ≡ true → 0 < length ds → starts is_ascii_digit (ds ++ rest) ≡ true
    by [] all some = absurd (omega arith)
    by (d ∷ ds) all some = (both (is_ascii_digit d) (list_all is_ascii_digit ds) all).0

-- a number after words
pub number_after-is : (words : List ℕ) (n : ℕ) (rest : List ℕ) → n < 2 ^ 64 → starts is_ascii_digit rest ≡ false
    → number_after words (counted words n ++ rest) ≡ Some (n, rest)
unfolding number_after
number_after-is words n rest fits stops =
    ap (number_after words) (append_assoc words (decimal n) rest)
    ∙ rw (after-words words (decimal n ++ rest), number_at-decimal n rest fits stops) refl

-- a number of 32 bits after words
pub word_after-is : (words : List ℕ) (n : ℕ) (rest : List ℕ) → n < 4294967296 → starts is_ascii_digit rest ≡ false
    → word_after words (counted words n ++ rest) ≡ Some (n, rest)
unfolding word_after
word_after-is words n rest fits stops =
    let small : ltb n 4294967296 ≡ true = lt-ltb n 4294967296 fits in
    rw (number_after-is words n rest (omega arith) stops, small) refl

-- ---- lines

-- a line ends at its line feed
pub line-is : (line rest : List ℕ) → list_all is_of_line line ≡ true
    → line_at (line ++ 10 ∷ rest) ≡ (line, 10 ∷ rest)
unfolding line_at
line-is line rest all =
    rw (
      end_of-is is_of_line line (10 ∷ rest) all refl,
      take-append_seam line (10 ∷ rest),
      drop-append_seam line (10 ∷ rest),
    ) refl
