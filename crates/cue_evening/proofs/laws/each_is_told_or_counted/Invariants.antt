use Rattle.std.proofs.Common.{◌≡◌, ◌+◌}
use Rattle.cue_evening.specs.Refusals.{times_of}
use Rattle.cue_evening.proofs.laws.each_is_told_or_counted.Given as goal

abbrev pub invariant-loop-now : goal.invariant-loop-now
invariant-loop-now l = l.told + times_of l.heard.counted ≡ l.now-index
