-- Which refusals the log tells, and which it counts.
use Rattle.std.specs.Prelude.{ℕ, ◌+◌, ◌-◌, min, ◌^◌, Bool, true, false, ◌&&◌, ◌||◌, not, List, [], ◌∷◌, ◌++◌, map, length, filter, nat_lt, nat_le, nat_eq}
use Rattle.std.specs.Prelude.{Option, None, Some, string_bytes}
use Rattle.std.specs.List.{list_any}
use Rattle.std.specs.Cmp.Lexicographic.{pointwise}
use Rattle.cue_engine.specs.declared.taken.Taken.{Taken}
use Rattle.cue_evening.specs.declared.refusals.Counted.{Counted}
use Rattle.cue_evening.specs.declared.refusals.Told.{Told}
use Rattle.cue_evening.specs.declared.refusals.TheConstants.{MOST, SECOND}

-- a reply is a refusal if it refused something, and nothing of it was made or known
abbrev pub is_refusal : Taken → Bool
is_refusal counts = nat_eq counts.made 0 && nat_eq counts.known 0 && nat_lt 0 counts.refused

-- a second has passed since this moment, or the clock was put back before it
abbrev pub is_over : ℕ → ℕ → Bool
is_over since now = nat_lt now since || nat_le SECOND (now - since)

-- the line was told less than a second ago
abbrev pub is_fresh : ℕ → Told → Bool
is_fresh now told = not (is_over told.at now)

-- what was told less than a second ago
abbrev pub fresh : ℕ → List Told → List Told
fresh now told = filter (is_fresh now) told

-- one of them has this line
abbrev pub has_line : List Told → List ℕ → Bool
has_line told line = list_any (λ t. pointwise nat_eq (string_bytes t.line) line) told

-- none of them has this line, and there are fewer than twenty
abbrev pub has_room : List Told → List ℕ → Bool
has_room told line = not (has_line told line) && nat_lt (length told) MOST

-- a refusal is told if nothing like it was told less than a second ago, and fewer than twenty were
abbrev pub is_told : ℕ → List Told → List ℕ → Bool
is_told now told line = has_room (fresh now told) line

-- when each was told
abbrev pub moments : List Told → List ℕ
moments told = map (λ t. t.at) told

-- the moments once a refusal was heard: told now, or not
abbrev pub moments_after : Bool → ℕ → List Told → List ℕ
moments_after true now told = moments told ++ now ∷ []
moments_after false now told = moments told

-- how many were counted and not said yet
abbrev pub times_of : Option Counted → ℕ
times_of None = 0
times_of (Some counted) = counted.times

-- one more, up to the largest number that there is
abbrev pub one_more : ℕ → ℕ
one_more times = min (times + 1) (2 ^ 64 - 1)

-- how many were counted once a refusal was heard: one more if it was not told
abbrev pub times_after : Bool → Option Counted → ℕ
times_after true counted = times_of counted
times_after false counted = one_more (times_of counted)

-- what was counted is to be said, since the first of it came a second ago
abbrev pub is_due : Option Counted → ℕ → Bool
is_due None now = false
is_due (Some counted) now = is_over counted.since now
