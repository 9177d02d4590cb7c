use Rattle.std.proofs.Common.{List, subst}
use Rattle.cue_report.proofs.TextLemmas.{both_put}
use Rattle.cue_report.specs.Drawing.{AreDrawnBy}
use Rattle.cue_report.specs.Writing.{IsWritten}
use Rattle.cue_report.specs.declared.attempt.Attempt.{Attempt}
use Rattle.cue_report.proofs.csv.table_of.Goals as goal

pub returns : goal.returns
returns c =
    let rows = c.in_ok-push_rows.ensures in (
      _,
      rows.0,
      both_put _ rows.0 _ _ _ c.new-table.ensures.bytes c.in_ok-push_head.ensures rows.1,
      subst (λ (all : List Attempt). AreDrawnBy (IsWritten 13) all rows.0) c.list.ensures rows.2,
    )
