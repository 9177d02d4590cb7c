use Rattle.std.proofs.Common.{◌≡◌, ◌++◌, string_bytes, take}
use Rattle.std.specs.List.{flat_map}
use Rattle.cue_html.specs.Html.{line_of}
use Rattle.cue_html.proofs.push_rows.Given as goal

-- the rows so far were put there
abbrev pub invariant-loop-row : goal.invariant-loop-row
invariant-loop-row l =
    string_bytes l.page ≡ string_bytes l.fn.page ++ flat_map line_of (take l.row-index l.rows)
