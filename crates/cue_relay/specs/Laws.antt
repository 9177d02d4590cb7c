-- What a law says of what is handed on.
use Rattle.std.specs.Prelude.{◌≡◌, ◌≤◌, ◌<◌, ◌+◌, ◌⊎◌, ℕ, Bool, true, false, List, length, Some, slice_get, Contains}
use Rattle.cue_osc.specs.declared.limits.TheConstants.{MAX_LEN}
use Rattle.cue_relay.specs.declared.rate.TheConstants.{RATE, SECOND}
use Rattle.cue_relay.specs.declared.relaying.Relay.{Relay}
use Rattle.cue_relay.specs.declared.route.Address.{Address}
use Rattle.cue_relay.specs.declared.route.Opening.{Opening}
use Rattle.cue_relay.specs.declared.route.Route.{Route}
use Rattle.cue_relay.specs.declared.route.Side.{Side}
use Rattle.cue_relay.specs.declared.route.Side.TheVariants.{Controller, Stage}
use Rattle.cue_relay.specs.Relayed.{Answer, Sending, comes}

-- A datagram went through a route: it came at one side, from there, and its bytes go on by the same route.
pub record CameBy (r : Relay) (given : List Answer) (s : Sending) (at : Opening) (from : Address)
    (route : Route) : Type 0 where
  pub now : ℕ
  pub came : Contains given (comes now at from s.bytes)
  pub found : slice_get r.routes.now at.route ≡ Some route
  pub same : at.route ≡ s.way.out.route
  pub fits : length s.bytes ≤ MAX_LEN

-- the controller's side
abbrev pub is_controller : Side → Bool
is_controller Controller = true
is_controller Stage = false

-- each comes a second after the hundredth before it, or the clock was put back between the two
abbrev pub AtMostAHundred : List ℕ → Type 0
AtMostAHundred times =
    (i first last : ℕ) → slice_get times i ≡ Some first → slice_get times (i + RATE) ≡ Some last
    → (first + SECOND ≤ last) ⊎ (last < first)
