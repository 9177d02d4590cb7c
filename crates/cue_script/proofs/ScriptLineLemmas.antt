-- Cutting a text at a byte, and the digits of a number.
use Rattle.std.specs.Prelude.{◌≡◌, ℕ, zero, suc, ◌+◌, ◌<◌, Bool, true, false, not, ◌&&◌, nat_le, ◌==◌, if◌then◌else◌}
use Rattle.std.specs.Prelude.{List, [], ◌∷◌, length, take, drop, Option, Some, None, slice_index}
use Rattle.std.specs.List.{onto_first}
use Rattle.std.specs.Option.{option_map, option_map_or}
use Rattle.std.proofs.Common.{ap, refl, arith, sym, ◌∙◌}
use Rattle.std.specs.Char.{is_ascii_digit, digit_value}
use Rattle.std.specs.Str.{all_ascii_digits}
use Rattle.std.specs.Str.Parse.{digits_value}
use Rattle.std.proofs.lemmas.Bool.Decides.{nat_tests}
use Rattle.std.proofs.lemmas.List.{take_more}
use Rattle.std.proofs.lemmas.List.Recursion.{and_fails_at, and_push}
use Rattle.std.proofs.lemmas.Str.{digit_value_digit}
use Rattle.std.proofs.lemmas.Str.Parse.{digits_value-take-le, tells_all_ascii_digits}
use Rattle.cue_script.specs.ScriptLines.{number_in, lines_of, cut_at, before_front}

no_mark : (b : Bool) → ¬ (b ≡ true) → b ≡ false
no_mark true h = absurd (h refl)
no_mark false h = refl

-- the first mark stands at this place
pub cut_found : (mark : ℕ) (text : List ℕ) (place : ℕ) → place < length text
    → ((k : ℕ) → k < place → ¬ ((slice_index text k == mark) ≡ true)) → (slice_index text place == mark) ≡ true
    → cut_at mark text ≡ Some (take place text, drop (place + 1) text)
cut_found mark [] place low before here = absurd (omega arith)
cut_found mark (byte ∷ bytes) zero low before here = rw here refl
cut_found mark (byte ∷ bytes) (suc place) low before here =
    let next : suc place + 1 ≡ suc (place + 1) = omega arith in
    rw (
      no_mark (byte == mark) (before 0 (omega arith)),
      cut_found mark bytes place (omega arith)
          (λ k below. before (suc k) (omega arith)) here,
      next,
    ) refl

-- there is no mark
pub cut_nowhere : (mark : ℕ) (text : List ℕ) → ((k : ℕ) → k < length text → ¬ ((slice_index text k == mark) ≡ true))
    → cut_at mark text ≡ None
cut_nowhere mark [] nowhere = refl
cut_nowhere mark (byte ∷ bytes) nowhere =
    rw (
      no_mark (byte == mark) (nowhere 0 (omega arith)),
      cut_nowhere mark bytes
          (λ k below. nowhere (suc k) (omega arith)),
    ) refl

-- a text that has no line feed is one line, where it is not empty
abbrev pub whole : List ℕ → List (List ℕ)
whole [] = []
whole (byte ∷ bytes) = (byte ∷ bytes) ∷ []

abbrev pub cut_lines : List ℕ × List ℕ → List (List ℕ)
cut_lines cut = cut.0 ∷ lines_of cut.1

onto_cut : (byte : ℕ) (bytes : List ℕ) (found : Option (List ℕ × List ℕ)) →
    onto_first byte (option_map_or cut_lines found (whole bytes)) ≡ option_map_or cut_lines
    (option_map (before_front byte) found) (whole (byte ∷ bytes))
onto_cut byte [] None = refl
onto_cut byte (next ∷ bytes) None = refl
onto_cut byte bytes (Some cut) = refl

-- the first line ends at the first line feed
pub lines-cut : (text : List ℕ) → lines_of text ≡ option_map_or cut_lines (cut_at 10 text) (whole text)
lines-cut [] = refl
lines-cut (byte ∷ bytes) = by_feed (lines-cut bytes) (byte == 10)
  where
    by_feed : lines_of bytes ≡ option_map_or cut_lines (cut_at 10 bytes) (whole bytes) → (feed : Bool) →
        (if feed then [] ∷ lines_of bytes else onto_first byte (lines_of bytes))
        ≡ option_map_or cut_lines (if feed then Some ([], bytes) else option_map (before_front byte) (cut_at 10 bytes))
        (whole (byte ∷ bytes))
    by_feed others true = refl
    by_feed others false = rw others (onto_cut byte bytes (cut_at 10 bytes))

pub lines-found : (text line rest : List ℕ) → Some (line, rest) ≡ cut_at 10 text → lines_of text ≡ line ∷ lines_of rest
lines-found text line rest found = lines-cut text
    ∙ ap (λ (o : Option (List ℕ × List ℕ)). option_map_or cut_lines o (whole text)) (sym found)

pub lines-whole : (text : List ℕ) → None ≡ cut_at 10 text → 0 < length text → lines_of text ≡ text ∷ []
lines-whole [] none some = absurd (omega arith)
lines-whole (byte ∷ bytes) none some = lines-cut (byte ∷ bytes)
    ∙ ap (λ (o : Option (List ℕ × List ℕ)). option_map_or cut_lines o ((byte ∷ bytes) ∷ [])) (sym none)

-- a byte that is no digit
pub number_not : (most : ℕ) (digits : List ℕ) (i : ℕ) → i < length digits
    → is_ascii_digit (slice_index digits i) ≡ false → number_in most digits ≡ None
number_not most digits i low bad =
    let none : all_ascii_digits digits ≡ false = and_fails_at all_ascii_digits is_ascii_digit refl (λ _ _. refl) digits
    i 0 low bad in
    rw none (by_test (not (length digits == 0)))
  where
    by_test : (b : Bool) → (if b && (false && nat_le (digits_value 10 digits) most) then Some (digits_value 10 digits)
        else None) ≡ None
    by_test true = refl
    by_test false = refl

-- the digits so far are too many
pub number_large : (most : ℕ) (digits : List ℕ) (i : ℕ) → most < digits_value 10 (take i digits)
    → number_in most digits ≡ None
number_large most digits i large =
    let more : most < digits_value 10 digits = omega (arith, digits_value-take-le 10 digits i (omega arith)) in
    let above : nat_le (digits_value 10 digits) most ≡ false = grind (arith, nat_tests) in
    rw above (by_tests (not (length digits == 0)) (all_ascii_digits digits))
  where
    by_tests : (b d : Bool) → (if b && (d && false) then Some (digits_value 10 digits) else None) ≡ None
    by_tests true true = refl
    by_tests true false = refl
    by_tests false true = refl
    by_tests false false = refl

-- one digit more
pub digits_more : (digits : List ℕ) (i : ℕ) → i < length digits → all_ascii_digits (take i digits) ≡ true
    → is_ascii_digit (slice_index digits i) ≡ true → all_ascii_digits (take (i + 1) digits) ≡ true
digits_more digits i low before here =
    rw (take_more digits i 0 low) (and_push all_ascii_digits is_ascii_digit refl (λ _ _. refl) (take i digits)
    (slice_index digits i) ∙ rw (before, here) refl)

-- the value of a digit
pub digit_less : (c : ℕ) → is_ascii_digit c ≡ true → digit_value c + 48 ≡ c
digit_less c is = digit_value_digit c (tells_all_ascii_digits.parts c [] (rw is refl)).0

-- an empty text has no line
pub lines-none : (text : List ℕ) → true ≡ (length text == 0) → lines_of text ≡ []
lines-none [] empty = refl
lines-none (byte ∷ bytes) empty = let some : 0 < length (byte ∷ bytes) = omega arith in
    absurd (grind (arith, nat_tests))
