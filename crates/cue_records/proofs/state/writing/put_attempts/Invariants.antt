use Rattle.std.proofs.Common.{◌≡◌, ◌++◌, drop}
use Rattle.std.specs.List.{flat_map}
use Rattle.cue_records.specs.State.{attempt_text}
use Rattle.cue_records.proofs.state.writing.put_attempts.Given as goal

-- what was written, and the attempts that are left, are all
abbrev pub invariant-loop-attempt : goal.invariant-loop-attempt
invariant-loop-attempt l = l.out.items ++ flat_map attempt_text (drop l.attempt-index l.attempts) ≡ l.fn.out.items
    ++ flat_map attempt_text l.attempts
