-- What a relay says of its devices, by the clock that never goes back.
use Rattle.std.specs.Prelude.{◌-◌, ◌+◌, ◌^◌, ◌&&◌, min, ℕ, Bool, true, false, if◌then◌else◌, List, [], ◌∷◌, map}
use Rattle.std.specs.Prelude.{Option, None, Some, nat_eq, nat_le}
use Rattle.std.specs.Option.{option_map}
use Rattle.cue_relay.specs.declared.claims.Claims.{Claims}
use Rattle.cue_relay.specs.declared.claims.Position.{Position}
use Rattle.cue_relay.specs.declared.status.Seen.{Seen}
use Rattle.cue_relay.specs.declared.status.Status.{Status}
use Rattle.cue_station.specs.declared.heard.Heard.{Heard}
use Rattle.cue_station.specs.declared.heard.Heard.TheVariants as heard
use Rattle.cue_station.specs.declared.limits.TheConstants.{POSITION_MS, RELAY_MS}
use Rattle.cue_station.specs.declared.memory.Relayed.{Relayed}
use Rattle.cue_view.specs.declared.view.Contacted.{Contacted}
use Rattle.cue_view.specs.declared.view.LastHeard.{LastHeard}
use Rattle.cue_view.specs.declared.view.LastHeard.TheVariants as last
use Rattle.cue_station.specs.Turns.{Turn}

-- ---- what is known of it

-- the stamp of what it wrote is that of before
abbrev pub has_stamp : ℕ → Option Status → Bool
has_stamp now None = false
has_stamp now (Some s) = nat_eq s.now now

-- since when it has written nothing new
abbrev pub stamped_by : ℕ → ℕ → Option Relayed → ℕ
stamped_by now at None = at
stamped_by now at (Some r) = if has_stamp now r.status then r.since else at

-- it cannot be read: what it wrote last is kept
abbrev pub unreadable_at : ℕ → Option Relayed → Relayed
unreadable_at at None = record { status = None; since = at }
unreadable_at at (Some r) = r

-- what is known of the relay once this was heard
abbrev pub relayed_with : Heard → ℕ → Option Relayed → Option Relayed
relayed_with (heard.Relay (Some s)) at old = Some (record { status = Some s; since = stamped_by s.now at old })
relayed_with (heard.Relay None) at old = Some (unreadable_at at old)
relayed_with _ at old = old

-- what it wrote last, and since when it has written nothing new; none if no relay is watched
abbrev pub relayed_of : List Turn → Option Relayed
relayed_of [] = None
relayed_of (t ∷ past) = relayed_with t.input.heard t.input.at (relayed_of past)

-- since when it has written nothing new
abbrev pub stamped_at : Option Relayed → Option ℕ
stamped_at r = option_map (λ (x : Relayed). x.since) r

-- it has written nothing new for two seconds, whatever its own clock says
abbrev pub is_stopped : ℕ → ℕ → Bool
is_stopped since now = nat_le (since + RELAY_MS) now

-- ---- what is shown of it

-- heard at that time of a clock that stood at `now` so long ago; nobody knows where that clock was put back since
abbrev pub last_heard : Option ℕ → ℕ → ℕ → LastHeard
last_heard None now age = last.Never
last_heard (Some h) now age = if nat_le h now then last.Ago (min (now - h + age) (2 ^ 64 - 1)) else last.Unknown

-- a position is of the last two seconds, and of no time that is still to come
abbrev pub is_of_now : ℕ → ℕ → ℕ → Bool
is_of_now now age told = nat_le told now && nat_le (now - told + age) POSITION_MS

-- where a device told that it is, as long as that is shown
abbrev pub position_shown : ℕ → ℕ → Option Position → Option Position
position_shown now age None = None
position_shown now age (Some p) = if is_of_now now age p.told then Some p else None

-- what it told of itself, as it is shown
abbrev pub claims_shown : ℕ → ℕ → Claims → Claims
claims_shown now age c = record {
  reason = c.reason;
  position = position_shown now age c.position;
  identity = c.identity;
}

-- a device as it is shown
abbrev pub contacted : ℕ → ℕ → Seen → Contacted
contacted now age s = record {
  device = s.device;
  heard = last_heard s.heard now age;
  ordered = s.ordered;
  motion = s.motion;
  silent = s.silent;
  claims = claims_shown now age s.claims;
}

abbrev pub contacts : ℕ → Status → List Contacted
contacts age s = map (contacted s.now age) s.devices.items

-- its devices, if it has been read and has not stopped
abbrev pub contacts_by : Option Status → Bool → ℕ → List Contacted
contacts_by None stopped age = []
contacts_by (Some s) true age = []
contacts_by (Some s) false age = contacts age s

abbrev pub network_in : Relayed → ℕ → List Contacted
network_in r now = contacts_by r.status (is_stopped r.since now) (now - r.since)

-- what is shown of the devices of the relay; nothing if none is watched
abbrev pub network_by : Option Relayed → ℕ → List Contacted
network_by None now = []
network_by (Some r) now = network_in r now
