use Rattle.std.proofs.Common.{◌≡◌, ◌++◌, string_bytes, take}
use Rattle.std.specs.List.{flat_map}
use Rattle.cue_kept.specs.Text.{device_line}
use Rattle.cue_kept.proofs.writing.put_each_device.Given as goal

-- what was written says those so far
abbrev pub invariant-loop-device : goal.invariant-loop-device
invariant-loop-device l =
    string_bytes l.out ≡ string_bytes l.fn.out ++ flat_map device_line (take l.device-index l.devices)
