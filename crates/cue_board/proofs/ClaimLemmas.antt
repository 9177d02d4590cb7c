-- What devices tell of themselves, as a text.
use Rattle.std.proofs.Common.{◌≡◌, ◌<◌, ◌≤◌, ◌∙◌, ℕ, Bool, true, false, [], ◌∷◌, if◌then◌else◌, nat_eq, nat_le, encode_utf8}
use Rattle.std.proofs.Common.{refl, ap, arith}
use Rattle.std.specs.Prelude.{◌&&◌}
use Rattle.std.proofs.lemmas.Bool.Decides.{nat_tests}
use Rattle.std.proofs.lemmas.Str.{encode_ascii}
use Rattle.cue_board.specs.Claims.{sign_of}

-- a sign that is shown is one of ASCII
sign_small : (b : ℕ) → sign_of b < 128
sign_small b = by (nat_eq b 34)
  where
    shown : (t : Bool) → (nat_le 32 b && nat_le b 126) ≡ t → (if t then b else 63) < 128
    shown true e = grind (arith, nat_tests)
    shown false e = omega arith

    by : (q : Bool) → (if q then 39 else if nat_le 32 b && nat_le b 126 then b else 63) < 128
    by true = omega arith
    by false = shown (nat_le 32 b && nat_le b 126) refl

-- and takes one byte
pub sign_encoded : (b c : ℕ) → c ≡ sign_of b → encode_utf8 c ≡ sign_of b ∷ []
sign_encoded b c e = ap encode_utf8 e ∙ encode_ascii (sign_of b) (sign_small b)
