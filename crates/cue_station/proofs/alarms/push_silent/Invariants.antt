use Rattle.std.proofs.Common.{◌≡◌, ◌++◌, map, take}
use Rattle.cue_view.specs.declared.view.Alarm.TheVariants as alarm
use Rattle.cue_station.proofs.alarms.push_silent.Given as goal

-- the alarms so far were put there
abbrev pub invariant-loop-device : goal.invariant-loop-device
invariant-loop-device l = l.all.items ≡ l.fn.all.items ++ map alarm.DeviceSilent (take l.device-index l.devices)
