use Rattle.std.proofs.Common.{◌≡◌, ◌++◌, map}
use Rattle.std.specs.List.{flat_map}
use Rattle.cue_osc.specs.Argument.{arg_view}
use Rattle.cue_operator.specs.ByParts.{device_commands}
use Rattle.cue_operator.proofs.matching.push_devices.Given as goal

-- what was found, and what the others give, is all
abbrev pub invariant-loop-device : goal.invariant-loop-device
invariant-loop-device l =
    l.found.items ++ flat_map (device_commands (map arg_view l.args) l.name l.verbs) l.device-iterator
    ≡ l.fn.found.items ++ flat_map (device_commands (map arg_view l.args) l.name l.verbs) l.show.devices
