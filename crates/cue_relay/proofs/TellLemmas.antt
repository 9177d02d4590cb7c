-- Who is heard to tell something of a device.
use Rattle.std.proofs.Common.{◌≡◌, ◌∙◌, ℕ, Bool, true, false, cond, nat_le, List, length, Option, Some, None, refl, sym, ap}
use Rattle.std.specs.Prelude.{slice_get, is_some, option_and_then}
use Rattle.std.proofs.lemmas.Bool.{leb-true}
use Rattle.std.proofs.lemmas.Option.{option_and_then_some, none-some, same_Some}
use Rattle.cue_osc.specs.declared.limits.TheConstants.{MAX_LEN}
use Rattle.cue_relay.specs.declared.claims.Claim.{Claim}
use Rattle.cue_relay.specs.declared.relaying.Relay.{Relay}
use Rattle.cue_relay.specs.declared.route.Address.{Address}
use Rattle.cue_relay.specs.declared.route.Opening.{Opening}
use Rattle.cue_relay.specs.declared.route.Route.{Route}
use Rattle.cue_relay.specs.declared.route.Side.{Side}
use Rattle.cue_relay.specs.declared.route.Side.TheVariants.{Controller, Stage}
use Rattle.cue_relay.specs.declared.route.Way.{Way}
use Rattle.cue_relay.specs.Claims.{claim_in}
use Rattle.cue_relay.specs.Relaying.{across, is_same, way_by, way_of, who_is_at}
use Rattle.cue_relay.specs.Telling.{IsOwn, OnlyItTells, claim_by, claim_from}
use Rattle.cue_relay.proofs.WayLemmas.{guarded, same_address}

-- there is a way, and something is told
told-parts : (w : Option Way) (o : Option Claim) (c : Claim) → cond (is_some w) o None ≡ Some c
    → ((way : Way) × (w ≡ Some way)) × (o ≡ Some c)
told-parts None o c e = absurd (none-some c e)
told-parts (Some way) o c e = ((way, refl), e)

-- at the stage's side
told-there : (side : Side) (route : Route) (bytes : List ℕ) (c : Claim) → claim_by side route bytes ≡ Some c
    → (side ≡ Stage) × (claim_in route.device bytes ≡ Some c)
told-there Controller route bytes c e = absurd (none-some c e)
told-there Stage route bytes c e = (refl, e)

own : (r : Relay) (at : Opening) (from : Address) (bytes : List ℕ) (c : Claim) (way : Way)
    → way_of r.controller r.routes.now at from (length bytes) ≡ Some way
    → option_and_then (λ route. claim_by at.side route bytes) (slice_get r.routes.now at.route) ≡ Some c
    → IsOwn r at from bytes c
own r at from bytes c way led told =
    let short = guarded (nat_le (length bytes) MAX_LEN)
    (option_and_then (λ route. way_by r.controller route at from) (slice_get r.routes.now at.route)) way led in
    option_and_then_some (λ route. claim_by at.side route bytes) (slice_get r.routes.now at.route) c told
    (λ route found says.
    let there = told-there at.side route bytes c says in
    let by : way_by r.controller route at from ≡ Some way =
    sym (ap (option_and_then (λ x. way_by r.controller x at from)) found) ∙ short.1 in
    let known = guarded (is_same from (who_is_at r.controller route at.side))
    (Some (record {
      out = record { route = at.route; side = across at.side };
      to = who_is_at r.controller route (across at.side);
    })) way by in
    record {
      route = route;
      found = found;
      stage = there.0;
      sender = same_address from (who_is_at r.controller route at.side) known.0
          ∙ ap (who_is_at r.controller route) there.0;
      fits = leb-true (length bytes) MAX_LEN short.0;
      told = there.1;
    })

pub only-it-tells : OnlyItTells
only-it-tells r at from bytes c e =
    let parts = told-parts (way_of r.controller r.routes.now at from (length bytes))
    (option_and_then (λ route. claim_by at.side route bytes) (slice_get r.routes.now at.route)) c e in
    own r at from bytes c parts.0.0 parts.0.1 parts.1
