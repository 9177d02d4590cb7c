use Rattle.std.proofs.Common.{◌≡◌, drop}
use Rattle.cue_station.specs.Alarms.{with_each}
use Rattle.cue_station.proofs.choosing.with_each.Given as goal

-- those that were seen by now, and then those that are left, give all
abbrev pub invariant-loop-seq : goal.invariant-loop-seq
invariant-loop-seq l = with_each (drop l.seq-index l.seen) l.after ≡ with_each l.seen l.fn.acknowledged
