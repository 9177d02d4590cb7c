-- Plain text is ASCII, and so it is a text.
use Rattle.std.proofs.Common.{◌≡◌, ℕ, ◌<◌, true, ◌&&◌, ◌==◌, not, List, [], ◌∷◌, length, nat_le, arith}
use Rattle.std.specs.List.{All, list_all}
use Rattle.std.specs.Str.{IsUtf8}
use Rattle.std.proofs.lemmas.Bool.{and_parts}
use Rattle.std.proofs.lemmas.Bool.Decides.{nat_tests}
use Rattle.std.proofs.lemmas.List.Elements.{All-cons, All-nil}
use Rattle.std.proofs.lemmas.Str.{IsUtf8-from_ascii}
use Rattle.std.proofs.lemmas.Str.Ascii.{IsAscii-from_all}
use Rattle.cue_show_file.specs.Plain.{is_plain, is_plain_sign}

below-ascii : (b : ℕ) → nat_le b 126 ≡ true → b < 128
below-ascii b h = grind (arith, nat_tests)

sign-small : (b : ℕ) → is_plain_sign b ≡ true → b < 128
unfolding is_plain_sign
sign-small b h =
    let k = and_parts (nat_le 32 b && nat_le b 126) (not (b == 34) && not (b == 92)) h in
    below-ascii b (and_parts (nat_le 32 b) (nat_le b 126) k.0).1

signs-small : (bs : List ℕ) → list_all is_plain_sign bs ≡ true → All (λ b. b < 128) bs
signs-small [] h = All-nil (λ b. b < 128)
signs-small (b ∷ bs) h =
    let k = and_parts (is_plain_sign b) (list_all is_plain_sign bs) h in
    All-cons (λ b. b < 128) b bs (sign-small b k.0) (signs-small bs k.1)

pub plain-utf8 : (bs : List ℕ) → is_plain bs ≡ true → IsUtf8 bs
plain-utf8 bs h =
    let signs = (and_parts (not (length bs == 0)) (list_all is_plain_sign bs) h).1 in
    IsUtf8-from_ascii bs (IsAscii-from_all bs (signs-small bs signs))
