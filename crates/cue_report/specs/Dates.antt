-- How times are shown.
use Rattle.std.specs.Prelude.{ℕ, ℤ, ◌==◌, ◌%◌, ◌+ℤ◌, if◌then◌else◌, List, codes, pos}
use Rattle.std.specs.Int.{saturate_unsigned, w64}

-- what a clock that is so far ahead shows at a second; it stops at the ends of its numbers
abbrev pub shown_at : ℤ → ℕ → ℕ
shown_at ahead at = saturate_unsigned w64 (pos at +ℤ ahead)

-- the second of the day that it shows then
abbrev pub clock_at : ℤ → ℕ → ℕ
clock_at ahead at = shown_at ahead at % 86400

-- the day of the week of a day, the first one of 1970 being a Thursday
abbrev pub weekday : ℕ → List ℕ
weekday day =
    if day == 0 then codes "Thursday"
    else if day == 1 then codes "Friday"
    else if day == 2 then codes "Saturday"
    else if day == 3 then codes "Sunday"
    else if day == 4 then codes "Monday"
    else if day == 5 then codes "Tuesday" else codes "Wednesday"
