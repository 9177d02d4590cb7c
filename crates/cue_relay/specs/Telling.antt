-- When a device is heard to tell something of itself.
use Rattle.std.specs.Prelude.{◌≡◌, ◌≤◌, ℕ, if◌then◌else◌, List, length, Option, Some, None, is_some, slice_get, option_and_then}
use Rattle.cue_osc.specs.declared.limits.TheConstants.{MAX_LEN}
use Rattle.cue_relay.specs.declared.claims.Claim.{Claim}
use Rattle.cue_relay.specs.declared.relaying.Relay.{Relay}
use Rattle.cue_relay.specs.declared.route.Address.{Address}
use Rattle.cue_relay.specs.declared.route.Opening.{Opening}
use Rattle.cue_relay.specs.declared.route.Route.{Route}
use Rattle.cue_relay.specs.declared.route.Side.{Side}
use Rattle.cue_relay.specs.declared.route.Side.TheVariants.{Controller, Stage}
use Rattle.cue_relay.specs.Claims.{claim_in}
use Rattle.cue_relay.specs.Relayed.{Answer, comes, ticks, way_and_message}
use Rattle.cue_relay.specs.Relaying.{way_of}

-- what is told at this side of a route: by its device, at the stage's side
abbrev pub claim_by : Side → Route → List ℕ → Option Claim
claim_by Controller route bytes = None
claim_by Stage route bytes = claim_in route.device bytes

-- what is told in a datagram that came at this opening, from whoever may send there
abbrev pub claim_from : Relay → Opening → Address → List ℕ → Option Claim
claim_from r at from bytes =
    if is_some (way_of r.controller r.routes.now at from (length bytes))
    then option_and_then (λ route. claim_by at.side route bytes) (slice_get r.routes.now at.route) else None

-- what is told in what comes, which says nothing that goes on
abbrev pub claim_of : Relay → Answer → Option Claim
claim_of r (comes now at from bytes) =
    if is_some (way_and_message r at from bytes) then None else claim_from r at from bytes
claim_of r (ticks now) = None

-- it is a claim of the device of that route, at the stage's side, from the device's own address
pub record IsOwn (r : Relay) (at : Opening) (from : Address) (bytes : List ℕ) (c : Claim) : Type 0 where
  pub route : Route
  pub found : slice_get r.routes.now at.route ≡ Some route
  pub stage : at.side ≡ Stage
  pub sender : from ≡ route.address
  pub fits : length bytes ≤ MAX_LEN
  pub told : claim_in route.device bytes ≡ Some c

-- nobody else tells anything of a device
abbrev pub OnlyItTells : Type 0
OnlyItTells =
    (r : Relay) (at : Opening) (from : Address) (bytes : List ℕ) (c : Claim) → claim_from r at from bytes ≡ Some c
    → IsOwn r at from bytes c
