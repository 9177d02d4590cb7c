-- What the board has beside the store.
use Rattle.std.specs.Prelude.{ℕ, List, [], ◌∷◌, ◌++◌, codes, Option, None, Some}

-- what is told of the show file, as one line
abbrev pub file_lines : Option (List ℕ) → List (List ℕ)
file_lines None = []
file_lines (Some told) = (codes "FILE   " ++ told) ∷ []
