use Rattle.std.proofs.Common.{◌≡◌}
use Rattle.cue_report.specs.Seen as seen
use Rattle.cue_report.proofs.attempt.Attempt.take_failures.Given as goal

-- what is left, and what was told so far
abbrev pub invariant-loop-taken : goal.invariant-loop-taken
invariant-loop-taken l = (l.left, seen.seen l.self) ≡ seen.failures_taken l._taken l.fn.failures (seen.seen l.fn.self)
