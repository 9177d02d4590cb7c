-- Whether a file still stands where it was opened.
use Rattle.std.specs.Prelude.{◌-◌, ◌||◌, ◌&&◌, ℕ, Bool, true, false, not, nat_eq, nat_le, nat_lt, Option, Some, None}
use Rattle.cue_program.specs.declared.program.place.Identity.{Identity}

-- the same file: the same number on the same device
abbrev pub is_same : Identity → Identity → Bool
is_same one other = nat_eq one.device other.device && nat_eq one.number other.number

-- A file that was opened stands elsewhere if another one, or none, is found at its path. Of one that does not say which
-- it is nothing is said.
abbrev pub is_elsewhere : (opened found : Option Identity) → Bool
is_elsewhere (Some opened) (Some found) = not (is_same opened found)
is_elsewhere (Some opened) None = true
is_elsewhere None found = false

-- it is looked at again a second after it was looked at last, or if the clock was put back
abbrev pub is_due : (last : Option ℕ) → (now : ℕ) → Bool
is_due None now = true
is_due (Some last) now = nat_lt now last || nat_le 1000 (now - last)
