use Rattle.std.proofs.Common.{◌≡◌, ◌++◌}
use Rattle.std.specs.List.{flat_map}
use Rattle.cue_words.specs.ShowText.{device_line}
use Rattle.cue_words.proofs.state.print_devices.Given as goal

-- what was printed, and the devices that are left, are all
abbrev pub invariant-loop-device : goal.invariant-loop-device
invariant-loop-device l = l.text.items ++ flat_map device_line l.device-iterator ≡ l.fn.text.items ++ flat_map
    device_line l.show.devices
