-- A cue number is ASCII, and so it is a text.
use Rattle.std.proofs.Common.{◌≡◌, ◌∙◌, ℕ, ◌<◌, Bool, true, false, ◌&&◌, ◌==◌, if◌then◌else◌, List, [], ◌∷◌, length}
use Rattle.std.proofs.Common.{nat_le, refl, arith}
use Rattle.std.specs.Prelude.{IsTrue}
use Rattle.std.specs.Char.{is_ascii_digit}
use Rattle.std.specs.List.{All, list_all}
use Rattle.std.specs.Str.{IsUtf8}
use Rattle.std.proofs.lemmas.Bool.{and_parts}
use Rattle.std.proofs.lemmas.Bool.Decides.{nat_tests}
use Rattle.std.proofs.lemmas.List.Elements.{All-cons, All-nil}
use Rattle.std.proofs.lemmas.Str.{IsUtf8-from_ascii}
use Rattle.std.proofs.lemmas.Str.Ascii.{IsAscii-from_all}
use Rattle.cue_show.specs.declared.limits.TheConstants.{MAX_CUE_BYTES}
use Rattle.cue_show.specs.Number.{is_cue_number, is_run, pieces}
use Rattle.cue_show.proofs.RunsLemmas.{runs_from, runs_from-start}

digit-small : (b : ℕ) → is_ascii_digit b ≡ true → b < 128
digit-small b h = grind (arith, nat_tests)

point-small : (b : ℕ) → (b == 46) ≡ true → b < 128
point-small b h = grind (arith, nat_tests)

runs-small : (a : Bool) (bs : List ℕ) → runs_from a bs ≡ true → All (λ b. b < 128) bs
runs-small a [] h = All-nil (λ b. b < 128)
runs-small a (b ∷ bs) h = by (is_ascii_digit b) refl h (runs-small true bs) (runs-small false bs)
  where
    by : (d : Bool) → is_ascii_digit b ≡ d
        → (if d then runs_from true bs else (b == 46 && (a && runs_from false bs))) ≡ true
        → (runs_from true bs ≡ true → All (λ b. b < 128) bs) → (runs_from false bs ≡ true → All (λ b. b < 128) bs)
        → All (λ b. b < 128) (b ∷ bs)
    by true is_digit k then_true then_false = All-cons (λ b. b < 128) b bs (digit-small b is_digit) (then_true k)
    by false is_digit k then_true then_false =
        let p = and_parts (b == 46) (a && runs_from false bs) k in
        All-cons (λ b. b < 128) b bs (point-small b p.0) (then_false (and_parts a (runs_from false bs) p.1).1)

pub cue-utf8 : (cue : List ℕ) → IsTrue (is_cue_number cue) → IsUtf8 cue
cue-utf8 cue h =
    let runs = (and_parts (nat_le (length cue) MAX_CUE_BYTES) (list_all is_run (pieces cue)) h).1 in
    IsUtf8-from_ascii cue (IsAscii-from_all cue (runs-small false cue (runs_from-start cue ∙ runs)))
