-- Lists of bytes.
use Rattle.std.proofs.Common.{◌≡◌, ℕ, zero, suc, ◌≤◌, true, List, [], ◌∷◌, get_or, nat_le, IsTrue, refl, arith}
use Rattle.std.proofs.lemmas.Bool.Decides.{nat_tests}
use Rattle.cue_show.specs.Bytes.{are_bytes}

small : (b : ℕ) → b ≤ 255 → nat_le b 255 ≡ true
small b h = grind (arith, nat_tests)

-- a list of which each number is at most 255
pub are_bytes-from_each : (bs : List ℕ) → ((k : ℕ) → get_or bs k 0 ≤ 255) → IsTrue (are_bytes bs)
are_bytes-from_each [] each = refl
are_bytes-from_each (b ∷ bs) each = rw (small b (each zero)) (are_bytes-from_each bs (λ k. each (suc k)))
