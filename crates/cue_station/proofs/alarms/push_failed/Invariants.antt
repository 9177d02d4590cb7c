use Rattle.std.proofs.Common.{◌≡◌, ◌++◌, map, take}
use Rattle.cue_view.specs.declared.view.Alarm.TheVariants as alarm
use Rattle.cue_station.proofs.alarms.push_failed.Given as goal

-- the alarms so far were put there
abbrev pub invariant-loop-seq : goal.invariant-loop-seq
invariant-loop-seq l = l.all.items ≡ l.fn.all.items ++ map alarm.Failed (take l.seq-index l.numbers)
