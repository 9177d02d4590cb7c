use Rattle.std.proofs.Common.{◌≡◌, ◌++◌, string_bytes, take}
use Rattle.std.specs.List.{flat_map}
use Rattle.cue_kept.specs.Text.{told_text}
use Rattle.cue_kept.proofs.writing.put_failures.Given as goal

-- what was written says those so far
abbrev pub invariant-loop-told : goal.invariant-loop-told
invariant-loop-told l =
    string_bytes l.out ≡ string_bytes l.fn.out ++ flat_map told_text (take l.told-index l.failures)
