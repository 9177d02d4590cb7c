-- How attempts are drawn.
use Rattle.std.specs.Prelude.{◌≡◌, ◌==◌, if◌then◌else◌, ℕ, List, [], ◌∷◌, ◌++◌, codes, decimal, length, Option, Some, None, String, string_bytes}
use Rattle.std.specs.declared.alloc.Global.{Global}
use Rattle.cue_exchange.specs.declared.attempt.Outcome.{Outcome}
use Rattle.cue_exchange.specs.declared.attempt.Outcome.TheVariants as outcome
use Rattle.cue_html.specs.Html.{row_of}
use Rattle.cue_report.specs.declared.attempt.Attempt.{Attempt}
use Rattle.cue_report.specs.declared.attempt.Ended.{Ended}

-- cells that begin with this number, with so many others after it
abbrev pub IsRow : ℕ → ℕ → List (String Global) → Type 0
IsRow number others [] = ⊥
IsRow number others (first ∷ rest) = (string_bytes first ≡ decimal number) × (length rest ≡ others)

-- what stands over the page: what the show is called, if that is said
abbrev pub title_by : List ℕ → List ℕ
title_by title = if length title == 0 then codes "Show report" else title

-- how a row begins that ended so
abbrev pub class_by : Outcome → List ℕ
class_by outcome.Complete = codes "<tr class=\"complete\">"
class_by outcome.Cancelled = codes "<tr class=\"cancelled\">"
class_by outcome.Failed = codes "<tr class=\"failed\">"

-- how the row of an attempt begins, by its end; one that has none in the log is not drawn as one that was complete
abbrev pub class_of : Option Ended → List ℕ
class_of None = codes "<tr class=\"open\">"
class_of (Some ended) = class_by ended.outcome

-- The text is one row: that of this attempt.
pub record IsDrawn (a : Attempt) (text : List ℕ) : Type 0 where
  pub cells : List (String Global)
  pub row : IsRow a.number 7 cells
  pub drawn : text ≡ row_of (class_of a.ended) cells

-- the text has a piece for each of the attempts, drawn so, once, in their order, and nothing else
abbrev pub AreDrawnBy : (Attempt → List ℕ → Type 0) → List Attempt → List ℕ → Type 0
AreDrawnBy IsOne [] text = text ≡ []
AreDrawnBy IsOne (a ∷ rest) text =
    (piece : List ℕ) × (others : List ℕ) × (text ≡ piece ++ others) × IsOne a piece × AreDrawnBy IsOne rest others

-- the text has a row for each of the attempts, once, in their order, and nothing else
abbrev pub AreDrawn : List Attempt → List ℕ → Type 0
AreDrawn attempts text = AreDrawnBy IsDrawn attempts text
