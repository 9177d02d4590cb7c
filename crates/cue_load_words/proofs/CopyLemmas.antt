-- What a copy has, and of which show file it is.
use Rattle.std.proofs.Common.{◌≡◌, ◌≢◌, ◌∙◌, ℕ, zero, suc, ◌+◌, ◌-◌, ◌%◌, ◌<◌, ◌≤◌, ◌^◌, ◌==◌, Bool, true, false, not}
use Rattle.std.proofs.Common.{List, [], ◌∷◌, ◌++◌, length, get_or, drop, codes, None, refl, sym, ap, inl, inr, arith}
use Rattle.std.proofs.Common.{append_assoc, length-append, if◌then◌else◌, ltb}
use Rattle.std.specs.Char.{is_ascii_digit}
use Rattle.std.specs.List.{list_all}
use Rattle.std.specs.Prelude.{decimal}
use Rattle.std.specs.Str.Pattern.{HasTextAt, LacksTextAt, RFindsText, SplitsAroundMatch}
use Rattle.std.proofs.lemmas.Bool.{false≢true}
use Rattle.std.proofs.lemmas.Bool.Decides.{nat_tests}
use Rattle.std.proofs.lemmas.Fmt.{decimal_by_steps, decimal_injective}
use Rattle.std.proofs.lemmas.List.{append_cancel_left, append_cancel_right, get_or-drop}
use Rattle.std.proofs.lemmas.List.Folds.{list_all-append}
use Rattle.std.proofs.Math.Seq.{drop-append_seam}
use Rattle.cue_show.proofs.TestLemmas.{both}
use Rattle.cue_show.specs.Show.{ShowLists}
use Rattle.cue_show_file.specs.declared.file.ShowFile.{ShowFile}
use Rattle.cue_show_file.specs.Written.{IsFileOf}
use Rattle.cue_load_words.specs.Copied.{IsCopyText, copy_text}
use Rattle.cue_load_words.specs.Copies.{IsCopyOf, IsFirst, IsWithout, are_digits, before, is_turn, toml, turn_of}
use Rattle.cue_load_words.specs.Laws.{CopiesAreApart, CopiesAreFound, NoCopyIsTheFile}

-- ---- what a copy has

pub is_copy_text : (s : ShowLists) (port : ℕ) (file : ShowFile) (text : List ℕ) → IsFileOf s file
    → text ≡ copy_text file port → IsCopyText s port text
is_copy_text s port file text is same = record { file = file; of = is; is = same }

-- ---- no point stands in what follows `.before`

abbrev is_no_point : ℕ → Bool
is_no_point b = not (b == 46)

digit-is_no_point : (b : ℕ) → is_ascii_digit b ≡ true → is_no_point b ≡ true
digit-is_no_point b h = grind (arith, nat_tests)

digits_have_no_point : (bs : List ℕ) → are_digits bs ≡ true → list_all is_no_point bs ≡ true
digits_have_no_point [] h = refl
digits_have_no_point (b ∷ bs) h =
    let parts = both (is_ascii_digit b) (are_digits bs) h in
    rw (digit-is_no_point b parts.0, digits_have_no_point bs parts.1) refl

dash-is_no_point : (b : ℕ) → (b == 45) ≡ true → is_no_point b ≡ true
dash-is_no_point b h = grind (arith, nat_tests)

turn_has_no_point : (turn : List ℕ) → is_turn turn ≡ true → list_all is_no_point turn ≡ true
turn_has_no_point [] h = refl
turn_has_no_point (b ∷ bs) h =
    let parts = both (b == 45) (are_digits bs) h in
    rw (dash-is_no_point b parts.0, digits_have_no_point bs parts.1) refl

-- where no point stands, none is found
no_point_at : (bs : List ℕ) (n : ℕ) → list_all is_no_point bs ≡ true → get_or bs n 0 ≢ 46
no_point_at [] n h e = absurd (omega (arith, e))
no_point_at (b ∷ bs) zero h e =
    let parts = both (is_no_point b) (list_all is_no_point bs) h in
    let here : is_no_point b ≡ false = ap is_no_point e in absurd (false≢true (sym here ∙ parts.0))
no_point_at (b ∷ bs) (suc n) h e =
    let parts = both (is_no_point b) (list_all is_no_point bs) h in no_point_at bs n parts.1 e

-- ---- of which show file a copy is

-- it begins where its `.before` stands
starts : (bare other : List ℕ) (k : IsCopyOf other bare) → drop (length other) bare ≡ before ++ k.turn
starts bare other k = ap (drop (length other)) k.all ∙ drop-append_seam other (before ++ k.turn)

is_within : (bare other : List ℕ) → IsCopyOf other bare → length other ≤ length bare
is_within bare other k = omega (arith, ap length k.all, length-append other (before ++ k.turn))

pub first_none : (bare : List ℕ) → RFindsText before bare None → IsFirst bare bare
first_none bare lacks =
    inr (λ other k. lacks (length other) (is_within bare other k) k.turn (starts bare other k), refl)

-- what comes after its first sign has no point
later : (bare other : List ℕ) (n : ℕ) → IsCopyOf other bare → get_or bare (length other + suc n) 0 ≢ 46
later bare other n k e =
    no_point_at (codes "before" ++ k.turn) n
    (list_all-append is_no_point (codes "before") k.turn ∙ rw (turn_has_no_point k.turn k.is) refl)
    (ap (λ t. get_or t (suc n) 0) (sym (starts bare other k)) ∙ get_or-drop (length other) bare (suc n) 0 ∙ e)

-- the last `.before` of a copy is that before its turn
no_copy : (bare other : List ℕ) (i j : ℕ) → ((n : ℕ) → i < n → n ≤ length bare → LacksTextAt before bare n)
    → HasTextAt before bare i j → is_turn (drop j bare) ≡ false → IsCopyOf other bare → ⊥
no_copy bare other i j lacks has differs k = by (ltb i (length other)) (ltb (length other) i) refl refl
  where
    point : get_or bare i 0 ≡ 46
    point = ap (λ n. get_or bare n 0) (omega arith) ∙ sym (get_or-drop i bare 0 0) ∙ ap (λ t. get_or t 0 0) has.split

    by : (a b : Bool) → ltb i (length other) ≡ a → ltb (length other) i ≡ b → ⊥
    by true b ea eb =
        lacks (length other) (grind (arith, nat_tests)) (is_within bare other k) k.turn (starts bare other k)
    by false true ea eb =
        let apart : length other < i = grind (arith, nat_tests) in
        later bare other (i - length other - 1) k (ap (λ n. get_or bare n 0) (omega (arith, apart)) ∙ point)
    by false false ea eb =
        let same : length other ≡ i = grind (arith, nat_tests) in
        let turn : k.turn ≡ drop j bare =
        append_cancel_left before k.turn (drop j bare)
        (sym (starts bare other k) ∙ ap (λ n. drop n bare) same ∙ has.split) in
        false≢true (sym differs ∙ ap is_turn (sym turn) ∙ k.is)

pub first_other : (bare front back : List ℕ) → SplitsAroundMatch (RFindsText before) bare front back
    → is_turn back ≡ false → IsFirst bare bare
first_other bare front back at other_turn =
    inr (λ other k. no_copy bare other at.0 at.1 at.2.0 at.2.1 (ap is_turn (sym at.4) ∙ other_turn) k, refl)

-- ---- laws

turns_are_apart : (j k : ℕ) → j < 2 ^ 64 → k < 2 ^ 64 → turn_of j ≡ turn_of k → j ≡ k
turns_are_apart j k fits_j fits_k = by (j == 1) (k == 1) refl refl
  where
    by : (a b : Bool) → (j == 1) ≡ a → (k == 1) ≡ b
        → (if a then [] else codes "-" ++ decimal j) ≡ (if b then [] else codes "-" ++ decimal k) → j ≡ k
    by true true ea eb e = grind (arith, nat_tests)
    by true false ea eb e = cc
    by false true ea eb e = cc
    by false false ea eb e =
        decimal_injective j k fits_j fits_k (append_cancel_left (codes "-") (decimal j) (decimal k) e)

pub copies-are-apart : CopiesAreApart
copies-are-apart stem j k fits_j fits_k e =
    let named = append_cancel_left stem (before ++ (turn_of j ++ toml)) (before ++ (turn_of k ++ toml)) e in
    let numbered = append_cancel_left before (turn_of j ++ toml) (turn_of k ++ toml) named in
    turns_are_apart j k (omega (arith, fits_j)) (omega (arith, fits_k))
    (append_cancel_right (turn_of j) (turn_of k) toml numbered)

digits-decimal : (n : ℕ) → n < 2 ^ 64 → are_digits (decimal n) ≡ true
digits-decimal n fits = decimal_by_steps (λ m ds. are_digits ds ≡ true)
    (λ m low. grind (arith, nat_tests))
    (λ m ds ten all. list_all-append is_ascii_digit ds ((48 + m % 10) ∷ [])
    ∙ (let digit : is_ascii_digit (48 + m % 10) ≡ true = grind (arith, nat_tests) in rw (all, digit) refl)) n fits

turn_is : (k : ℕ) → k < 2 ^ 64 → is_turn (turn_of k) ≡ true
turn_is k fits = by (k == 1) refl
  where
    by : (b : Bool) → (k == 1) ≡ b → is_turn (if b then [] else codes "-" ++ decimal k) ≡ true
    by true e = refl
    by false e = digits-decimal k fits

pub copies-are-found : CopiesAreFound
copies-are-found stem k fits =
    record {
      bare = stem ++ (before ++ turn_of k);
      without =
          inl (ap (λ t. stem ++ t) (sym (append_assoc before (turn_of k) toml))
          ∙ sym (append_assoc stem (before ++ turn_of k) toml));
      first = inl (record { turn = turn_of k; is = turn_is k (omega (arith, fits)); all = refl });
    }

-- its name is longer
pub no-copy-is-the-file : NoCopyIsTheFile
no-copy-is-the-file path stem k is e = by is.without is.first
  where
    long : length path ≡ length stem + (length before + (length (turn_of k) + length toml))
    long =
        ap length (sym e) ∙ length-append stem (before ++ (turn_of k ++ toml))
        ∙ ap (λ n. length stem + n) (length-append before (turn_of k ++ toml)
        ∙ ap (λ n. length before + n) (length-append (turn_of k) toml))

    by : IsWithout toml path is.bare → IsFirst is.bare stem
        → (bare : List ℕ) × IsWithout toml path bare × IsCopyOf stem bare
    by without (inl copy) = (is.bare, without, copy)
    by (inl ends) (inr same) =
        absurd (omega (arith, long, ap length ends, length-append is.bare toml, ap length same.1))
    by (inr ends) (inr same) = absurd (omega (arith, long, ap length ends.1, ap length same.1))
