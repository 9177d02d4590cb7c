use Rattle.std.proofs.Common.{◌++◌, string_bytes}
use Rattle.cue_screen.specs.Pictures.{emptied}
use Rattle.cue_screen.proofs.WritingLemmas.{RowsLeft}
use Rattle.cue_screen.proofs.screen.push_empty.Given as goal

-- what was written, and what will be of the rows that are left, is all
abbrev pub invariant-loop-at : goal.invariant-loop-at
invariant-loop-at l =
    RowsLeft l.row l.at l.count (string_bytes l.text) (string_bytes l.fn.text ++ emptied l.row l.count)
