use Rattle.std.proofs.Common.{List, ℕ, length}
use Rattle.std.specs.Fmt.{HasWritten, IsPlainFormatter}
use Rattle.std.specs.Str.{chars}
use Rattle.cue_saying.specs.Shown.{shown_name}
use Rattle.cue_saying.proofs.ShownLemmas.{IsWay}
use Rattle.cue_saying.proofs.shown.write_shown.Given as goal

-- what was written, and what the characters that are left will write, is all
abbrev pub invariant-loop-c : goal.invariant-loop-c
invariant-loop-c g l =
    IsPlainFormatter l.fn.f
    → (done : List ℕ) × HasWritten g.W.Write.write_str_gives l.fn.f done l.f
    × IsWay (length l.yielded) (chars l.text) done (shown_name l.text)
