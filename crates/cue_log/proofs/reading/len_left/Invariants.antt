use Rattle.std.proofs.Common.{◌≡◌, length}
use Rattle.cue_log.specs.Reading.{bytes_left}
use Rattle.cue_log.proofs.reading.len_left.Given as goal

abbrev pub invariant-loop-gate : goal.invariant-loop-gate
invariant-loop-gate l = bytes_left l.rest ≡ bytes_left l.tail

abbrev pub decreases-loop-gate : goal.decreases-loop-gate
decreases-loop-gate l = length l.rest
