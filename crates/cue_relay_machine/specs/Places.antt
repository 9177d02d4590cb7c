-- Places: the two sockets of a route stand side by side, the controller's first.
use Rattle.std.specs.Prelude.{ℕ, List, [], ◌∷◌, ◌+◌, ◌-◌, ◌/◌, ◌%◌, ◌==◌, if◌then◌else◌}
use Rattle.cue_machine.specs.declared.address.Address as machine
use Rattle.cue_relay.specs.declared.route.Address as relay
use Rattle.cue_relay.specs.declared.route.Opening.{Opening}
use Rattle.cue_relay.specs.declared.route.Route.{Route}
use Rattle.cue_relay.specs.declared.route.Side.{Side}
use Rattle.cue_relay.specs.declared.route.Side.TheVariants.{Controller, Stage}

-- the side of the socket at this place
abbrev pub side_at : ℕ → Side
side_at place = if place % 2 == 0 then Controller else Stage

-- the opening whose socket stands at this place
abbrev pub opening_at : ℕ → Opening
opening_at place = record { route = place / 2; side = side_at place }

-- the place of the other socket of its route
abbrev pub across_from : ℕ → ℕ
across_from place = if place % 2 == 0 then place + 1 else place - 1

-- the same host and port, as the relay has them, and as the loop has them
abbrev pub relay_address : machine.Address → relay.Address
relay_address a = record { host = a.host; port = a.port }

abbrev pub machine_address : relay.Address → machine.Address
machine_address a = record { host = a.host; port = a.port }

-- where the two sockets of a route are: on the controller's machine, and on the stage's network
abbrev pub both_addresses : (controller stage : ℕ) → Route → List machine.Address
both_addresses controller stage r =
    record { host = controller; port = r.port } ∷ record { host = stage; port = r.port } ∷ []
