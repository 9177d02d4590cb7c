use Rattle.std.proofs.Common.{◌≡◌}
use Rattle.cue_whereabouts.specs.Beginning.{entries_below}
use Rattle.cue_whereabouts.proofs.memory.Whereabouts.new.Given as goal

-- those so far are there
abbrev pub invariant-loop-number : goal.invariant-loop-number
invariant-loop-number l = l.all.items ≡ entries_below l.number
