-- The cues that are stood by together with one, in words.
use Rattle.std.specs.Prelude.{ℕ, List, [], ◌∷◌, ◌++◌, codes}

-- the cues, with a comma before each
abbrev pub after_commas : List (List ℕ) → List ℕ
after_commas [] = []
after_commas (c ∷ cs) = codes ", " ++ (c ++ after_commas cs)

-- what follows the number of a cue; nothing if it is stood by alone
abbrev pub with_said : List (List ℕ) → List ℕ
with_said [] = []
with_said (c ∷ cs) = codes " with " ++ (c ++ after_commas cs)
