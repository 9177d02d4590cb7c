use Rattle.std.proofs.Common.{◌≡◌, ◌++◌}
use Rattle.std.specs.List.{filter_map}
use Rattle.std.specs.Map.{keys_of}
use Rattle.cue_whereabouts.specs.Differing.{difference_of}
use Rattle.cue_whereabouts.proofs.memory.Whereabouts.differences_at.Given as goal

-- those that were found, and those among the devices that are left, are all
abbrev pub invariant-loop-device : goal.invariant-loop-device
invariant-loop-device l =
    l.found.items ++ filter_map (difference_of l.state l.cue l.self) (keys_of l.device-iterator)
    ≡ filter_map (difference_of l.state l.cue l.self) (keys_of l.state.show.devices)
