use Rattle.std.specs.Prelude.{◌≡◌, ℕ, true, List, take}
use Rattle.std.specs.Str.{all_ascii_digits}
use Rattle.std.specs.Str.Parse.{digits_value}
use Rattle.cue_script.proofs.line.number_in.Given as goal

-- what was read so far is a number, and this is its value
pub record IsRead (digits : List ℕ) (value : ℕ) : Type 0 where
  pub all_digits : all_ascii_digits digits ≡ true
  pub same_value : value ≡ digits_value 10 digits

abbrev pub invariant-loop-digit : goal.invariant-loop-digit
invariant-loop-digit l = IsRead (take l.digit-index l.digits) l.value
