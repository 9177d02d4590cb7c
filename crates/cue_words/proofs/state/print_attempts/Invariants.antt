use Rattle.std.proofs.Common.{◌≡◌, ◌++◌, drop}
use Rattle.std.specs.List.{flat_map}
use Rattle.cue_words.specs.ShowText.{attempt_line}
use Rattle.cue_words.proofs.state.print_attempts.Given as goal

-- what was printed, and the attempts that are left, are all
abbrev pub invariant-loop-attempt : goal.invariant-loop-attempt
invariant-loop-attempt l = l.text.items ++ flat_map attempt_line (drop l.attempt-index l.attempts) ≡ l.fn.text.items
    ++ flat_map attempt_line l.attempts
