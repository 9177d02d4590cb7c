use Rattle.std.proofs.Common.{◌≡◌}
use Rattle.cue_load_machine.specs.Counts.{with_left_devices}
use Rattle.cue_load_machine.proofs.becoming.count_left_devices.Given as goal

-- with what is left, all are counted
abbrev pub invariant-loop-device : goal.invariant-loop-device
invariant-loop-device l = with_left_devices l.file l.device-iterator l.counted ≡ with_left_devices l.file l.stored.devices l.fn.counted
