-- How old what presses may be.
use Rattle.std.proofs.Common.{◌≡◌, ℕ, ◌+◌, ◌-◌, ◌<◌, ◌≤◌, ◌^◌, Bool, true, false, if◌then◌else◌, min, IsTrue}
use Rattle.std.proofs.Common.{refl, arith, nat_le, nat_lt}
use Rattle.std.proofs.lemmas.Bool.Decides.{nat_tests}
use Rattle.cue_presses.specs.Laws.{IsYoung, PressIsYoung}
use Rattle.cue_presses.specs.Settling.{is_over, opened}
use Rattle.cue_presses.specs.declared.settling.Settling.{Settling}
use Rattle.cue_presses.specs.declared.settling.TheConstants.{AWAY_MS, SETTLE_MS}

young-by : (s : Settling) (now : ℕ) → now < 2 ^ 64 - 1 → (t : Bool) → nat_lt AWAY_MS (now - s.empty) ≡ t
    → IsTrue (is_over (if t then opened now else s)) → IsYoung s now
young-by s now high true e h =
    let over : nat_le (min (now + SETTLE_MS) (2 ^ 64 - 1)) now ≡ true = h in
    grind (arith, nat_tests, over, high)
young-by s now high false e h =
    let over : nat_le s.from s.empty ≡ true = h in
    record { settled = grind (arith, nat_tests, over); young = grind (arith, nat_tests, e) }

pub press-is_young : PressIsYoung
press-is_young s now high h = young-by s now high (nat_lt AWAY_MS (now - s.empty)) refl h
