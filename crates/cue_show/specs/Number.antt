-- The text of a cue number.
use Rattle.std.specs.Prelude.{ℕ, Bool, ◌&&◌, ◌==◌, if◌then◌else◌, List, [], ◌∷◌, length, nat_eq, nat_le}
use Rattle.std.specs.Char.{is_ascii_digit}
use Rattle.std.specs.Cmp.Lexicographic.{pointwise}
use Rattle.std.specs.List.{list_all}
use Rattle.cue_show.specs.declared.limits.TheConstants.{MAX_CUE_BYTES}

-- a byte put before the first of the pieces
abbrev pub onto_first : ℕ → List (List ℕ) → List (List ℕ)
onto_first b [] = (b ∷ []) ∷ []
onto_first b (piece ∷ pieces) = (b ∷ piece) ∷ pieces

-- the pieces of a text round its points
abbrev pub pieces : List ℕ → List (List ℕ)
pieces [] = [] ∷ []
pieces (b ∷ bs) = if b == 46 then [] ∷ pieces bs else onto_first b (pieces bs)

-- a run of digits is not empty
abbrev pub is_run : List ℕ → Bool
is_run run = nat_le 1 (length run) && list_all is_ascii_digit run

-- a cue number has 1 to 16 bytes: runs of digits, joined by single points
abbrev pub is_cue_number : List ℕ → Bool
is_cue_number text = nat_le (length text) MAX_CUE_BYTES && list_all is_run (pieces text)

-- two texts are the same, byte for byte
abbrev pub same_text : List ℕ → List ℕ → Bool
same_text = pointwise nat_eq
