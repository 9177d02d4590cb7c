-- That the lines name each device that stands elsewhere, or say how many are left.
use Rattle.std.specs.Prelude.{◌≡◌, ℕ, ◌+◌, ◌-◌, ◌⊎◌, List, [], ◌++◌, length, Option, None, Some, count_by}
use Rattle.cue_board.specs.declared.names.Names.{Names}
use Rattle.cue_elsewhere.specs.Lines.{each_line, is_unheard, left_line, texts_in, unheard_line}
use Rattle.cue_whereabouts.specs.declared.differing.Difference.{Difference}

-- nothing is left; or no more have room beside the line that says how many are left
abbrev pub IsFull : Option ℕ → (named left : List (List ℕ)) → Type 0
IsFull None named left = left ≡ []
IsFull (Some room) named left = (left ≡ []) ⊎ (length named ≡ room - 1)

-- Of the devices that differ the first that stand elsewhere are named, each once and in order, and so many as have room;
-- of the others it is said how many are left, and of how many nothing was heard: none is named twice or left out.
pub record NamesOrCounts (names : Names) (room : Option ℕ) (xs : List Difference) : Type 0 where
  pub named : List (List ℕ)
  pub left : List (List ℕ)
  pub all : each_line names xs ≡ named ++ left
  pub lines : texts_in names room xs ≡ (named ++ left_line (length left)) ++ unheard_line (count_by is_unheard xs)
  pub full : IsFull room named left
  pub each : length named + (length left + count_by is_unheard xs) ≡ length xs

abbrev pub EachIsNamedOrCounted : Type 0
EachIsNamedOrCounted = (names : Names) (room : Option ℕ) (xs : List Difference) → NamesOrCounts names room xs
