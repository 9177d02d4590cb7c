-- What is said while cues are live, byte for byte.
use Rattle.std.specs.Prelude.{ℕ, List, [], ◌∷◌, ◌++◌, codes}

-- the cues after the first one of a list: commas between them, and `and` before the last one
abbrev pub others_words : List (List ℕ) → List ℕ
others_words [] = []
others_words (cue ∷ []) = codes " and " ++ cue
others_words (cue ∷ (other ∷ more)) = codes ", " ++ (cue ++ others_words (other ∷ more))

-- one cue is live
abbrev pub one_words : List ℕ → List ℕ
one_words cue =
    codes "cue " ++ (cue
    ++ codes " is live: nothing is replaced. Wait until it has ended, or load without --replace and --exact")

-- this one and these others are live
abbrev pub several_words : List ℕ → List (List ℕ) → List ℕ
several_words cue others =
    codes "cues " ++ (cue ++ (others_words others
    ++ codes " are live: nothing is replaced. Wait until they have ended, or load without --replace and --exact"))

-- nothing is replaced while these cues are live; which ones is not known if there is none
abbrev pub live_words : List (List ℕ) → List ℕ
live_words [] =
    codes "a cue is live: nothing is replaced. Wait until it has ended, or load without --replace and --exact"
live_words (cue ∷ []) = one_words cue
live_words (cue ∷ (other ∷ more)) = several_words cue (other ∷ more)
