-- What a cue number is as a text.
use Rattle.std.proofs.Common.{◌≡◌, ℕ, ◌<◌, ◌≤◌, Bool, true, false, ◌&&◌, ◌==◌, cond, List, [], ◌∷◌, length, nat_le}
use Rattle.std.proofs.Common.{IsTrue, refl, arith}
use Rattle.std.specs.Char.{is_ascii_digit}
use Rattle.std.specs.List.{AllByRecursion, list_all}
use Rattle.std.proofs.lemmas.Bool.{and_parts, eqb-true, leb-true}
use Rattle.std.proofs.lemmas.Bool.Decides.{nat_tests}
use Rattle.cue_show.specs.Number.{pieces, is_run, is_cue_number}
use Rattle.cue_show.specs.declared.limits.TheConstants.{MAX_CUE_BYTES}
use Rattle.cue_show.proofs.RunsLemmas.{runs_from, runs_from-start}

-- no byte is a null
abbrev pub HasNoNull : List ℕ → Type 0
HasNoNull bs = AllByRecursion (λ b. 0 < b) bs

digit_some : (b : ℕ) → is_ascii_digit b ≡ true → 0 < b
digit_some b h = grind (arith, nat_tests)

-- digits and points are no nulls
runs_have_no_null : (after_digit : Bool) (bs : List ℕ) → runs_from after_digit bs ≡ true → HasNoNull bs
runs_have_no_null a [] h = tt
runs_have_no_null a (b ∷ bs) h =
    by (is_ascii_digit b) refl h (runs_have_no_null true bs) (runs_have_no_null false bs)
  where
    by : (d : Bool) → is_ascii_digit b ≡ d → cond d (runs_from true bs) (b == 46 && (a && runs_from false bs)) ≡ true
        → (runs_from true bs ≡ true → HasNoNull bs) → (runs_from false bs ≡ true → HasNoNull bs) → HasNoNull (b ∷ bs)
    by true digit h after before = (digit_some b digit, after h)
    by false digit h after before =
        let here = and_parts (b == 46) (a && runs_from false bs) h in
        let point : b ≡ 46 = eqb-true b 46 here.0 in
        (omega arith, before (and_parts a (runs_from false bs) here.1).1)

-- a cue number holds no null
pub number_text : (text : List ℕ) → IsTrue (is_cue_number text) → HasNoNull text
number_text text h =
    let runs = (and_parts (nat_le (length text) MAX_CUE_BYTES) (list_all is_run (pieces text)) h).1 in
    runs_have_no_null false text (rw (runs_from-start text) runs)

-- and is short
pub number_short : (text : List ℕ) → IsTrue (is_cue_number text) → length text ≤ 16
number_short text h = leb-true (length text) MAX_CUE_BYTES
    (and_parts (nat_le (length text) MAX_CUE_BYTES) (list_all is_run (pieces text)) h).0
