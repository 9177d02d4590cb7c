use Rattle.std.proofs.Common.{◌≡◌, ◌++◌, drop}
use Rattle.std.specs.List.{flat_map}
use Rattle.cue_relay_machine.specs.Places.{both_addresses}
use Rattle.cue_relay_machine.proofs.places.addresses.Given as goal

-- what was put there, and what is left, are all
abbrev pub invariant-loop-route : goal.invariant-loop-route
invariant-loop-route l =
    l.found.items ++ flat_map (both_addresses l.controller l.stage) (drop l.route-index l.routes)
    ≡ flat_map (both_addresses l.controller l.stage) l.routes
