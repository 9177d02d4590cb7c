use Rattle.std.proofs.Common.{◌∙◌, ◌++◌, ap, refl, string_bytes}
use Rattle.std.specs.Prelude.{ℕ, List, String}
use Rattle.std.specs.declared.alloc.Global.{Global}
use Rattle.cue_html.specs.Html.{row_of}
use Rattle.cue_report.specs.Drawing.{class_of}
use Rattle.cue_report.proofs.html.push_attempt.Goals as goal

pub returns : goal.returns
returns c =
    let before = string_bytes c.args.page.now in
    let cells = c.in_ok-row.row.items in (
      row_of (class_of c.args.attempt.now.ended) cells,
      c.in_ok-push_row.ensures
          ∙ (ap (λ (x : List (String Global)). before ++ row_of c.class_of.result.now x) c.deref.ensures.value
          ∙ ap (λ (x : List ℕ). before ++ row_of x cells) c.class_of.ensures),
      record { cells = cells; row = c.in_ok-row.ensures; drawn = refl },
    )
