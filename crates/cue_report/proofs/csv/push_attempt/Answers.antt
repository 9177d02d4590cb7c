use Rattle.std.proofs.Common.{◌∙◌, ◌++◌, ap, refl, string_bytes}
use Rattle.std.specs.Prelude.{List, String}
use Rattle.std.specs.declared.alloc.Global.{Global}
use Rattle.cue_report.specs.Csv.{row_of}
use Rattle.cue_report.proofs.csv.push_attempt.Goals as goal

pub returns : goal.returns
returns c =
    let before = string_bytes c.args.table.now in
    let cells = c.in_ok-cells.cells.items in (
      row_of cells,
      c.in_ok-push_row.ensures ∙ ap (λ (x : List (String Global)). before ++ row_of x) c.deref.ensures.value,
      record { cells = cells; row = c.in_ok-cells.ensures; written = refl },
    )
