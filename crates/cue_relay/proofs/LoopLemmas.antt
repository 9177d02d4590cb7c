-- Devices that are read one after the other.
use Rattle.std.proofs.Common.{◌≡◌, ◌∙◌, ℕ, suc, ◌+◌, ◌-◌, ◌<◌, List, [], ◌∷◌, ◌++◌, Option, Some, None, refl, ap, arith}
use Rattle.cue_relay.specs.declared.status.Seen.{Seen}
use Rattle.cue_relay.specs.Reading.{and_more, devices_at, seen_at}

-- one more stands there
pub devices-step : (count k : ℕ) (rest more : List ℕ) (s : Seen) → k < count → seen_at rest ≡ Some (s, more)
    → devices_at (count - k) rest ≡ s ∷ devices_at (count - (k + 1)) more
devices-step count k rest more s low found =
    let one : count - k ≡ suc (count - (k + 1)) = omega arith in
    ap (λ n. devices_at n rest) one ∙ ap (and_more (devices_at (count - (k + 1)))) found

-- none stands there
pub devices-stop : (count k : ℕ) (rest : List ℕ) → k < count → seen_at rest ≡ None
    → devices_at (count - k) rest ≡ []
devices-stop count k rest low found =
    let one : count - k ≡ suc (count - (k + 1)) = omega arith in
    ap (λ n. devices_at n rest) one ∙ ap (and_more (devices_at (count - (k + 1)))) found
