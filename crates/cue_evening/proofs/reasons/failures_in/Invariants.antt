use Rattle.std.proofs.Common.{◌≡◌, take}
use Rattle.cue_log_lines.specs.Listed.{failures_text}
use Rattle.cue_evening.proofs.reasons.failures_in.Given as goal

-- the failures so far were written
abbrev pub invariant-loop-failure : goal.invariant-loop-failure
invariant-loop-failure l = l.text.items ≡ failures_text (take l.failure-index l.failures)
