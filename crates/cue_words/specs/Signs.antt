-- Characters that a terminal shows as one sign, at their place.
use Rattle.std.specs.Prelude.{ℕ, Bool, not, ◌&&◌, if◌then◌else◌, List, [], ◌∷◌, nat_le}
use Rattle.std.specs.List.{list_any}

-- from the first code to the last one
abbrev pub is_within : ℕ → ℕ × ℕ → Bool
is_within c range = nat_le range.0 c && nat_le c range.1

-- the codes of Unicode that are no sign of their own: controls, what turns the direction of a line, and what a screen
-- may ignore by default
abbrev pub hidden : List (ℕ × ℕ)
hidden =
    (0, 31)  -- controls: U+0000 to U+001F
    ∷ (127, 159)  -- controls: U+007F to U+009F
    ∷ (173, 173)  -- the soft hyphen: U+00AD
    ∷ (847, 847)  -- a joiner without a sign: U+034F
    ∷ (1564, 1564)  -- a mark of direction: U+061C
    ∷ (4447, 4448)  -- fillers: U+115F, U+1160
    ∷ (6068, 6069)  -- vowels that are never written: U+17B4, U+17B5
    ∷ (6155, 6159)  -- variants and a separator without width: U+180B to U+180F
    ∷ (8203, 8207)  -- without width, and marks of direction: U+200B to U+200F
    ∷ (8232, 8238)  -- separators of lines, and turns of direction: U+2028 to U+202E
    ∷ (8288, 8303)  -- without width, and turns of direction: U+2060 to U+206F
    ∷ (12644, 12644)  -- a filler: U+3164
    ∷ (65024, 65039)  -- variants of the sign before them: U+FE00 to U+FE0F
    ∷ (65279, 65279)  -- the mark of a text's beginning: U+FEFF
    ∷ (65440, 65440)  -- a filler: U+FFA0
    ∷ (65520, 65531)  -- without width, and marks of notes between the lines: U+FFF0 to U+FFFB
    ∷ (78896, 78911)  -- what joins hieroglyphs: U+13430 to U+1343F
    ∷ (113824, 113827)  -- what joins shorthand: U+1BCA0 to U+1BCA3
    ∷ (119155, 119162)  -- beginnings and ends in music: U+1D173 to U+1D17A
    ∷ (917504, 921599)  -- tags: U+E0000 to U+E0FFF
    ∷ []

-- a sign of its own
abbrev pub is_shown : ℕ → Bool
is_shown c = not (list_any (λ range. is_within c range) hidden)

-- the character, or a question mark in its place
abbrev pub shown : ℕ → ℕ
shown c = if is_shown c then c else 63
