use Rattle.std.proofs.Common.{◌≡◌, ◌++◌}
use Rattle.std.specs.List.{flat_map}
use Rattle.cue_records.specs.Fields.{entry_text}
use Rattle.cue_records.proofs.state.writing.put_devices.Given as goal

-- what was written, and the devices that are left, are all
abbrev pub invariant-loop-device : goal.invariant-loop-device
invariant-loop-device l = l.out.items ++ flat_map entry_text l.device-iterator ≡ l.fn.out.items ++ flat_map entry_text
    l.show.devices
