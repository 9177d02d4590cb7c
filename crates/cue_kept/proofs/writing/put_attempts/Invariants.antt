use Rattle.std.proofs.Common.{◌≡◌, ◌++◌, string_bytes, take}
use Rattle.std.specs.List.{flat_map}
use Rattle.cue_kept.specs.Text.{attempt_line}
use Rattle.cue_kept.proofs.writing.put_attempts.Given as goal

-- what was written says those so far
abbrev pub invariant-loop-attempt : goal.invariant-loop-attempt
invariant-loop-attempt l =
    string_bytes l.out ≡ string_bytes l.fn.out ++ flat_map attempt_line (take l.attempt-index l.attempts)
