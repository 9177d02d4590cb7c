-- What an evening keeps, and how its times are shown.
use Rattle.std.specs.Prelude.{ℕ, ℤ, ◌+◌, ◌++◌, ◌&&◌, ◌||◌, min, Bool, false, nat_eq, not, if◌then◌else◌, List, [], ◌∷◌, length, nat_lt}
use Rattle.std.specs.Prelude.{Option, Some, None, unwrap_or}
use Rattle.cue_report.specs.Range.{has}
use Rattle.cue_report.specs.declared.dates.Times.{Times}
use Rattle.cue_report.specs.declared.evening.Counts.{Counts}
use Rattle.cue_report.specs.declared.range.Range.{Range}

-- there is room to keep one more
abbrev pub has_room : {A : Type 0} → List A → Bool
has_room kept = nat_lt (length kept) 1000

-- what is kept with one more, if there is room
abbrev pub kept_with : {A : Type 0} → List A → A → List A
kept_with kept item = if has_room kept then kept ++ item ∷ [] else kept

-- so many more; a count stops at the end of its numbers
abbrev pub more_by : ℕ → ℕ → ℕ
more_by times count = min (count + times) 18446744073709551615

-- one more line that is none of the log
abbrev pub with_other : Counts → Counts
with_other c = record c { others = more_by 1 c.others }

-- one more line of another part of the evening
abbrev pub with_outside : Counts → Counts
with_outside c = record c { outside = more_by 1 c.outside }

-- a line is of another part of the evening: by its date, or as the line before it, if it has none
abbrev pub is_outside : Range → ℤ → Bool → Option ℕ → Bool
is_outside range ahead before None = before
is_outside range ahead before (Some at) = not (has range ahead at)

-- how times are shown: by the day of the first line
abbrev pub times : ℤ → Option ℕ → Times
times ahead first = record { ahead = ahead; first = unwrap_or first 0 }

-- a second is before that of the last line; or it is the same, and that line was one that stood there before
abbrev pub goes_back : Option ℕ → Bool → ℕ → Bool
goes_back None repeating at = false
goes_back (Some last) repeating at = nat_lt at last || (nat_eq at last && repeating)
