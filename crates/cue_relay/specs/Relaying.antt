-- How a datagram goes on that came at a socket of the relay.
use Rattle.std.specs.Prelude.{ℕ, Bool, ◌&&◌, ◌==◌, nat_le, if◌then◌else◌, List, Option, None, Some}
use Rattle.std.specs.Prelude.{slice_get, option_and_then}
use Rattle.cue_osc.specs.declared.limits.TheConstants.{MAX_LEN}
use Rattle.cue_relay.specs.declared.messages.Message.{Message}
use Rattle.cue_relay.specs.declared.route.Address.{Address}
use Rattle.cue_relay.specs.declared.route.Opening.{Opening}
use Rattle.cue_relay.specs.declared.route.Route.{Route}
use Rattle.cue_relay.specs.declared.route.Side.{Side}
use Rattle.cue_relay.specs.declared.route.Side.TheVariants.{Controller, Stage}
use Rattle.cue_relay.specs.declared.route.Way.{Way}
use Rattle.cue_relay.specs.Messages.{message_in}

-- the same host and the same port
abbrev pub is_same : Address → Address → Bool
is_same one other = one.host == other.host && one.port == other.port

-- the other side
abbrev pub across : Side → Side
across Controller = Stage
across Stage = Controller

-- who is at a side of a route: the controller, or the device
abbrev pub who_is_at : Address → Route → Side → Address
who_is_at controller route Controller = controller
who_is_at controller route Stage = route.address

-- through a route: only from whoever is at this side, by the socket across, to whoever is there
abbrev pub way_by : Address → Route → Opening → Address → Option Way
way_by controller route at from =
    if is_same from (who_is_at controller route at.side)
    then Some (record {
      out = record { route = at.route; side = across at.side };
      to = who_is_at controller route (across at.side);
    })
    else None

-- of a datagram that is not too long, at the opening of a route that there is
abbrev pub way_of : Address → List Route → Opening → Address → ℕ → Option Way
way_of controller routes at from len =
    if nat_le len MAX_LEN
    then option_and_then (λ route. way_by controller route at from) (slice_get routes at.route)
    else None

-- what it says, if it says something that may go on there
abbrev pub message_at : List Route → Opening → List ℕ → Option Message
message_at routes at bytes =
    option_and_then (λ route. message_in at.side route.device bytes) (slice_get routes at.route)
