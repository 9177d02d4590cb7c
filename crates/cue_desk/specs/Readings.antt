-- When what was read of a store is what its files hold.
use Rattle.std.specs.Prelude.{◌≡◌, ◌≤◌, ◌+◌, ◌*◌, ℕ}
use Rattle.cue_desk.specs.declared.stamps.Stamp.{Stamp}
use Rattle.cue_desk.specs.declared.stamps.Stamps.{Stamps}
use Rattle.cue_desk.specs.declared.stamps.TheConstants.{SETTLED}

-- its last change is so long before the moment that each one after it has another time
abbrev pub IsSettled : Stamp → ℕ → Type 0
IsSettled stamp time = stamp.seconds * 1000 + SETTLED ≤ time

-- Files had these stamps when their reading was begun, and have the same ones now; and each change since would show.
pub record Holds (stamps : Stamps) (begun : ℕ) (seen : Stamps) : Type 0 where
  pub same : stamps ≡ seen
  pub first : IsSettled stamps.first begun
  pub second : IsSettled stamps.second begun
