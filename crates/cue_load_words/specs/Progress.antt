-- How far a load has come, as a line that is drawn over itself.
use Rattle.std.specs.Prelude.{ℕ, ◌+◌, ◌-◌, ◌^◌, ◌/◌, Bool, ◌&&◌, if◌then◌else◌, nat_lt, min, List, [], ◌++◌}
use Rattle.std.specs.Prelude.{codes, decimal}
use Rattle.cue_load_words.specs.declared.progress.Steps.{Steps}
use Rattle.cue_load_words.specs.declared.progress.TheConstants.{STEPS}

-- a sum, up to the highest number that there is
abbrev pub up_to_most : ℕ → ℕ
up_to_most n = min n (2 ^ 64 - 1)

-- these are done, and another machine does the others
abbrev pub passed : ℕ → Steps → Steps
passed count s = record s { before = up_to_most (s.before + count) }

-- the machine at work has done so many
abbrev pub reached : ℕ → Steps → Steps
reached count s = record s { done = up_to_most (s.before + count) }

-- the line is drawn again once after so many steps
abbrev pub is_drawn : Steps → Steps → Bool
is_drawn s after = nat_lt (s.done / STEPS) (after.done / STEPS)

abbrev pub line_of : Steps → List ℕ
line_of s = codes "\r" ++ (decimal s.done ++ (codes " of " ++ decimal s.all))

-- what is drawn once the machine at work has done so many, if it is told
abbrev pub drawn : Bool → ℕ → Steps → List ℕ
drawn tells count s = if tells && is_drawn s (reached count s) then line_of (reached count s) else []
