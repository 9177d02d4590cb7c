-- Which part of an evening is told.
use Rattle.std.specs.Prelude.{ℕ, ℤ, Bool, true, ◌&&◌, ◌||◌, if◌then◌else◌, nat_le, Option, Some, None}
use Rattle.cue_report.specs.Dates.{clock_at}
use Rattle.cue_report.specs.declared.range.Hours.{Hours}
use Rattle.cue_report.specs.declared.range.Range.{Range}
use Rattle.cue_report.specs.declared.range.Range.TheVariants as range

-- the second of a day is from the one end to the other; if that ends before it begins, past midnight
abbrev pub is_within : Hours → ℕ → Bool
is_within hours second =
    if nat_le hours.from hours.to then nat_le hours.from second && nat_le second hours.to
    else nat_le hours.from second || nat_le second hours.to

-- a moment is the one at which a part begins, or comes after it; where no moment is, the part has no begin
abbrev pub is_from : Option ℕ → ℕ → Bool
is_from None at = true
is_from (Some from) at = nat_le from at

-- a moment is the one at which a part ends, or comes before it; where no moment is, the part has no end
abbrev pub is_up_to : Option ℕ → ℕ → Bool
is_up_to None at = true
is_up_to (Some to) at = nat_le at to

-- a moment is told: the clock on the wall, which is so far ahead, shows a second of the hours, whatever day it is; or the
-- moment itself is from the one moment to the other, whatever the clock shows
abbrev pub has : Range → ℤ → ℕ → Bool
has (range.OfDay hours) ahead at = is_within hours (clock_at ahead at)
has (range.Between moments) ahead at = is_from moments.from at && is_up_to moments.to at
