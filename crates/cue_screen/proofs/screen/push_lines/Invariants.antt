use Rattle.std.proofs.Common.{◌++◌, map, string_bytes}
use Rattle.cue_screen.specs.Pictures.{changed}
use Rattle.cue_screen.proofs.WritingLemmas.{LinesLeft}
use Rattle.cue_screen.proofs.screen.push_lines.Given as goal

-- what was written, and what will be of the lines that are left, is all
abbrev pub invariant-loop-row : goal.invariant-loop-row
invariant-loop-row l =
    LinesLeft (map string_bytes l.shown) l.row l.lines (string_bytes l.text)
    (string_bytes l.fn.text ++ changed 0 (map string_bytes l.shown) (map string_bytes l.lines))
