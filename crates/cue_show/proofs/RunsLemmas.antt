-- A cue number read from the front: the code remembers only whether a digit stood last.
use Rattle.std.proofs.Common.{◌≡◌, ℕ, Bool, true, false, ◌&&◌, ◌==◌, if◌then◌else◌, List, [], ◌∷◌, length, get_or, drop}
use Rattle.std.proofs.Common.{suc, nat_le, ◌<◌, ◌≤◌, ◌≢◌, ◌⊎◌, inl, inr, refl, sym, ap, ◌∙◌, drop-cons, arith}
use Rattle.std.proofs.lemmas.Bool.Decides.{nat_tests}
use Rattle.std.specs.Char.{is_ascii_digit}
use Rattle.std.specs.List.{list_all}
use Rattle.cue_show.specs.declared.limits.TheConstants.{MAX_CUE_BYTES}
use Rattle.cue_show.specs.Number.{pieces, onto_first, is_run, is_cue_number}

-- the rest is runs of digits joined by single points, where a digit stood last before it or not
abbrev pub runs_from : Bool → List ℕ → Bool
runs_from after_digit [] = after_digit
runs_from after_digit (b ∷ bs) =
    if is_ascii_digit b then runs_from true bs else (b == 46 && (after_digit && runs_from false bs))

-- the pieces are runs, where a digit stood last before the first of them or not
abbrev pub goes_on : Bool → List (List ℕ) → Bool
goes_on after_digit [] = true
goes_on after_digit ([] ∷ rest) = after_digit && list_all is_run rest
goes_on after_digit ((b ∷ piece) ∷ rest) = list_all is_ascii_digit (b ∷ piece) && list_all is_run rest

and_assoc : (a b c : Bool) → ((a && b) && c) ≡ (a && (b && c))
and_assoc true b c = refl
and_assoc false b c = refl

and_true : (a : Bool) → a ≡ (a && true)
and_true true = refl
and_true false = refl

one_at_least : (b : ℕ) (piece : List ℕ) (rest : List (List ℕ))
    → goes_on false ((b ∷ piece) ∷ rest) ≡ list_all is_run ((b ∷ piece) ∷ rest)
one_at_least b piece rest = let some : nat_le 1 (length (b ∷ piece)) ≡ true = grind (arith, nat_tests) in rw some

and_false : (a : Bool) → (a && false) ≡ false
and_false true = refl
and_false false = refl

goes_on-false : (ps : List (List ℕ)) → goes_on false ps ≡ list_all is_run ps
goes_on-false [] = refl
goes_on-false ([] ∷ rest) = refl
goes_on-false ((b ∷ piece) ∷ rest) = one_at_least b piece rest

goes_on-onto_first : (a : Bool) (b : ℕ) (ps : List (List ℕ))
    → goes_on a (onto_first b ps) ≡ (is_ascii_digit b && goes_on true ps)
goes_on-onto_first a b [] = and_assoc (is_ascii_digit b) true true
goes_on-onto_first a b ([] ∷ rest) = and_assoc (is_ascii_digit b) true (list_all is_run rest)
goes_on-onto_first a b ((c ∷ piece) ∷ rest) =
    and_assoc (is_ascii_digit b) (is_ascii_digit c && list_all is_ascii_digit piece) (list_all is_run rest)

pub no_point : (b : ℕ) → is_ascii_digit b ≡ true → (b == 46) ≡ false
no_point b h = grind (arith, nat_tests)

pub runs_from-pieces : (after_digit : Bool) (bs : List ℕ) → runs_from after_digit bs ≡ goes_on after_digit (pieces bs)
runs_from-pieces a [] = and_true a
runs_from-pieces a (b ∷ bs) = by (is_ascii_digit b) (b == 46) refl refl (runs_from-pieces true bs)
    (runs_from-pieces false bs)
  where
    by : (d p : Bool) → is_ascii_digit b ≡ d → (b == 46) ≡ p → runs_from true bs ≡ goes_on true (pieces bs)
        → runs_from false bs ≡ goes_on false (pieces bs)
        → runs_from a (b ∷ bs) ≡ goes_on a (pieces (b ∷ bs))
    by true p is_digit is_point then_true then_false =
        rw (is_digit, no_point b is_digit) (then_true
        ∙ sym (goes_on-onto_first a b (pieces bs) ∙ ap (λ x. x && goes_on true (pieces bs)) is_digit))
    by false true is_digit is_point then_true then_false =
        rw (is_digit, is_point) (ap (λ x. a && x) (then_false ∙ goes_on-false (pieces bs)))
    by false false is_digit is_point then_true then_false =
        rw (is_digit, is_point) (sym (goes_on-onto_first a b (pieces bs)
        ∙ ap (λ x. x && goes_on true (pieces bs)) is_digit))

-- a text is runs of digits joined by points exactly where reading it from the front says so
pub runs_from-start : (bs : List ℕ) → runs_from false bs ≡ list_all is_run (pieces bs)
runs_from-start bs = runs_from-pieces false bs ∙ goes_on-false (pieces bs)

-- a byte that is no digit, and no point behind a digit, ends the reading
pub runs_from-stops : (after_digit : Bool) (text : List ℕ) (i : ℕ) → i < length text
    → is_ascii_digit (get_or text i 0) ≡ false
    → ((get_or text i 0 ≡ 46) × (after_digit ≡ false)) ⊎ (get_or text i 0 ≢ 46)
    → runs_from after_digit (drop i text) ≡ false
runs_from-stops a text i within not_digit why = rw (drop-cons text i 0 within, not_digit) (by why)
  where
    by : ((get_or text i 0 ≡ 46) × (a ≡ false)) ⊎ (get_or text i 0 ≢ 46)
        → (get_or text i 0 == 46 && (a && runs_from false (drop (suc i) text))) ≡ false
    by (inl (_, not_after)) = rw not_after (and_false (get_or text i 0 == 46))
    by (inr not_point) = let e : (get_or text i 0 == 46) ≡ false = grind (arith, nat_tests) in rw e

-- a text that is short enough is a cue number where reading it from the front says so
pub is_cue_number-short : (text : List ℕ) → length text ≤ MAX_CUE_BYTES → is_cue_number text ≡ runs_from false text
is_cue_number-short text short = let e : nat_le (length text) MAX_CUE_BYTES ≡ true = grind (arith, nat_tests) in
    rw e (sym (runs_from-start text))
