-- The table of the attempts.
use Rattle.std.specs.Prelude.{◌≡◌, ℕ, List, ◌++◌, codes, String}
use Rattle.std.specs.declared.alloc.Global.{Global}
use Rattle.cue_report.specs.Csv.{row_of}
use Rattle.cue_report.specs.Drawing.{AreDrawnBy, IsRow}
use Rattle.cue_report.specs.declared.attempt.Attempt.{Attempt}

-- the first row: the name of the number, and the others, each with a comma before it
unfoldable pub head_of : List ℕ → List ℕ
head_of names = codes "attempt" ++ (names ++ codes "\r\n")

-- The text is one row: that of this attempt, with its number and so many values after it.
pub record IsWritten (others : ℕ) (a : Attempt) (text : List ℕ) : Type 0 where
  pub cells : List (String Global)
  pub row : IsRow a.number others cells
  pub written : text ≡ row_of cells

-- the table has a first row, and then a row for each of the attempts, in their order, and nothing else
abbrev pub IsTable : List Attempt → List ℕ → Type 0
IsTable attempts text =
    (names : List ℕ) × (rows : List ℕ) × (text ≡ head_of names ++ rows) × AreDrawnBy (IsWritten 13) attempts rows
