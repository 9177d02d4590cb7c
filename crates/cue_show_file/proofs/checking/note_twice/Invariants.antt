use Rattle.std.proofs.Common.{IsTrue}
use Rattle.cue_show_file.specs.Reading.{is_clean}
use Rattle.cue_show_file.proofs.checking.note_twice.Given as goal

-- where nothing is found by now, nothing was found before
abbrev pub invariant-loop-part : goal.invariant-loop-part
invariant-loop-part l = IsTrue (is_clean l.findings) → IsTrue (is_clean l.fn.findings)
