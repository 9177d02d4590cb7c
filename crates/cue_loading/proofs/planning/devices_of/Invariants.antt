use Rattle.std.proofs.Common.{◌≡◌, ◌++◌}
use Rattle.cue_loading.proofs.planning.devices_of.Given as goal

-- what was put there, and what is left, are all
abbrev pub invariant-loop-device : goal.invariant-loop-device
invariant-loop-device l = l.devices.items ++ l.device-iterator ≡ l.show.devices
