use Rattle.std.proofs.Common.{◌≡◌, ◌++◌, length}
use Rattle.cue_pattern.specs.Grammar.{ranges}
use Rattle.cue_pattern.proofs.ranges.Ranges.read.Given as goal

abbrev pub invariant-loop-rest : goal.invariant-loop-rest
invariant-loop-rest l = l.items.items ++ ranges l.rest ≡ ranges l.inside

abbrev pub decreases-loop-rest : goal.decreases-loop-rest
decreases-loop-rest l = length l.rest
