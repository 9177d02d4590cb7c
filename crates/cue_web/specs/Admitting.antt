-- Who comes to the page, and who gives way.
use Rattle.std.specs.Prelude.{◌≡◌, ℕ, ◌+◌, ◌-◌, ◌≤◌, Bool, true, List, [], ◌∷◌, ◌++◌, length, drop}
use Rattle.cue_connection.specs.Connecting.{IsFresh}
use Rattle.cue_web.specs.declared.wire.Wire.{Wire}
use Rattle.cue_web.specs.declared.connections.TheConstants.{MAX_ADMITTED, MAX_CONNECTIONS}

-- each has just come
abbrev pub AreFresh : List Wire → Type 0
AreFresh [] = Unit {0}
AreFresh (c ∷ more) = IsFresh c.connection × AreFresh more

-- the newest of these, which stand in the order in which they came: as many as may be here
abbrev pub newest : List Wire → List Wire
newest cs = drop (length cs - MAX_CONNECTIONS) cs

-- Those who came stand after those who were here, each fresh. Some may be dropped for want of memory, but nobody is if
-- there is room already for so many. More may wait only if as many came as are taken in one round.
pub record Come (room : ℕ) (here all : List Wire) (may_wait : Bool) : Type 0 where
  pub came : List Wire
  pub dropped : ℕ
  pub fresh : AreFresh came
  pub stand : all ≡ here ++ came
  pub kept : length here + MAX_ADMITTED ≤ room → dropped ≡ 0
  pub few : length came + dropped ≤ MAX_ADMITTED
  pub many : may_wait ≡ true → length came + dropped ≡ MAX_ADMITTED

-- Who was here stays, in order, and those who came stand after them; if they are too many, those who have waited
-- longest give way.
pub record Admits (room : ℕ) (here here_then : List Wire) (may_wait : Bool) : Type 0 where
  pub all : List Wire
  pub come : Come room here all may_wait
  pub stay : here_then ≡ newest all
