-- Which part of an evening a report tells, and its lines.
use Rattle.std.specs.Prelude.{◌≡◌, ℕ, ℤ, List, ◌++◌, codes, Option, None, Some, Ok, String, string_bytes}
use Rattle.std.specs.List.{flat_map}
use Rattle.std.specs.declared.alloc.Global.{Global}
use Rattle.cue_columns.specs.Columns.{AreFit}
use Rattle.cue_desk_line.specs.declared.reading.reporting.End.{End}
use Rattle.cue_desk_line.specs.declared.reading.reporting.End.TheVariants as said
use Rattle.cue_desk_line.specs.declared.reading.reporting.Report.{Report}
use Rattle.cue_report.specs.Ends.{range_of}
use Rattle.cue_report.specs.declared.ends.End as of_report
use Rattle.cue_report.specs.declared.ends.End.TheVariants as ends
use Rattle.cue_report.specs.declared.ends.NoRange.{NoRange}
use Rattle.cue_report.specs.declared.ends.NoRange.TheVariants as no_range
use Rattle.cue_report.specs.declared.marks.Mark.{Mark}
use Rattle.cue_report.specs.declared.range.Range.{Range}

-- each line with its end
abbrev pub line_text : List ℕ → List ℕ
line_text line = line ++ codes "\n"

abbrev pub joined : List (String Global) → List ℕ
joined lines = flat_map (λ line. line_text (string_bytes line)) lines

-- The text has lines alone that a terminal shows, each in its columns.
pub record HasFitLines (text : List ℕ) : Type 0 where
  pub lines : List (String Global)
  pub fit : AreFit lines
  pub are : text ≡ joined lines

-- an end of what is told, as the command line says it and as the report knows it
abbrev pub end_of : Option End → of_report.End
end_of None = ends.Clock None
end_of (Some (said.Minute minute)) = ends.Clock (Some minute)
end_of (Some said.Mark) = ends.Mark

-- the part of the evening that the command line says, by these marks
abbrev pub IsTold : Report → List Mark → (ahead : ℤ) → Range → Type 0
IsTold report marks ahead range = range_of (end_of report.from) (end_of report.to) marks ahead ≡ Ok range

-- why marks give nothing to tell
abbrev pub range_words : NoRange → List ℕ
range_words no_range.NeverUp = codes "no line says `curtain up`, where the report would begin"
range_words no_range.NeverDown = codes "no line says `curtain down`, where the report would end"
range_words no_range.DownBeforeUp = codes "the last `curtain down` is before the first `curtain up`"
