use Rattle.std.proofs.Common.{◌≡◌}
use Rattle.cue_load_machine.specs.Counts.{with_devices}
use Rattle.cue_load_machine.proofs.becoming.count_file_devices.Given as goal

-- with what is left, all are counted
abbrev pub invariant-loop-device : goal.invariant-loop-device
invariant-loop-device l = with_devices l.stored l.device-iterator l.counted ≡ with_devices l.stored l.file.devices l.fn.counted
