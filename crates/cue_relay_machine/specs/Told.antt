-- What a device told last of itself, by all that came.
use Rattle.std.specs.Prelude.{ℕ, ◌==◌, if◌then◌else◌, List, [], ◌∷◌, Option, Some, None}
use Rattle.cue_relay.specs.declared.claims.Claim.{Claim}
use Rattle.cue_relay.specs.declared.claims.Claims.{Claims}
use Rattle.cue_relay.specs.declared.relaying.Relay.{Relay}
use Rattle.cue_relay.specs.Claims.{after_claim}
use Rattle.cue_relay.specs.Relayed.{Answer, comes, ticks}
use Rattle.cue_relay.specs.Telling.{claim_of}
use Rattle.cue_relay_machine.specs.declared.known.Known.{Known}

-- what the device of this route tells in what comes: at the stage's side of its own route, from its own address
abbrev pub told_by : Relay → ℕ → Answer → Option Claim
told_by r route (comes now at from bytes) = if at.route == route then claim_of r (comes now at from bytes) else None
told_by r route (ticks now) = None

-- when it came
abbrev pub time_of : Answer → ℕ
time_of (comes now at from bytes) = now
time_of (ticks now) = now

-- what it told last, once it told this, or nothing
abbrev pub with_told : Option Claim → Claims → ℕ → Claims
with_told None c now = c
with_told (Some x) c now = after_claim c x now

-- what it told last of all that came, in order
abbrev pub told_last : Relay → ℕ → Claims → List Answer → Claims
told_last r route c [] = c
told_last r route c (a ∷ more) = told_last r route (with_told (told_by r route a) c (time_of a)) more

-- what is kept of a device's claims
abbrev pub claims_of : Known → Claims
claims_of k = k.claims
