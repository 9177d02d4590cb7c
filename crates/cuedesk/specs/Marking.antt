-- The marks of a page.
use Rattle.std.specs.Prelude.{◌≡◌, ℕ, List, Option}
use Rattle.std.specs.Io.KnownBytes.{Appends}
use Rattle.cue_curtain.specs.Shown.{shown_of}
use Rattle.cue_page.specs.declared.board.marks.CurtainMark.{CurtainMark}
use Rattle.cue_report.specs.Marks.{IsLineOf}
use Rattle.cue_report.specs.declared.marks.Curtain.{Curtain}
use Rattle.cue_report.specs.declared.marks.Mark.{Mark}

-- These are of the evening, at a second, among the marks of a file.
pub record AreShown (shown : List CurtainMark) : Type 0 where
  pub now : ℕ
  pub marks : List Mark
  pub are : shown ≡ shown_of now marks

-- What is printed is the line of a mark of this.
pub record IsSaid (curtain : Curtain) (out out_then : Option (List ℕ)) : Type 0 where
  pub line : List ℕ
  pub is : IsLineOf curtain line
  pub printed : Appends out out_then line
