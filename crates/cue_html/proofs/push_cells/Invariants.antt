use Rattle.std.proofs.Common.{◌≡◌, ◌++◌, string_bytes, take}
use Rattle.std.specs.List.{flat_map}
use Rattle.cue_html.specs.Html.{cell_of}
use Rattle.cue_html.proofs.push_cells.Given as goal

-- the cells so far were put there
abbrev pub invariant-loop-cell : goal.invariant-loop-cell
invariant-loop-cell l =
    string_bytes l.page
    ≡ string_bytes l.fn.page ++ flat_map (λ cell. cell_of (string_bytes cell)) (take l.cell-index l.cells)
