-- What a relay hands on of all that comes.
use Rattle.std.specs.Prelude.{ℕ, Bool, true, false, if◌then◌else◌, List, [], ◌∷◌, ◌++◌, length, replicate}
use Rattle.std.specs.Prelude.{Option, Some, None, is_some}
use Rattle.cue_relay.specs.declared.going.Going.{Going}
use Rattle.cue_relay.specs.declared.messages.Message.{Message}
use Rattle.cue_relay.specs.declared.relaying.Relay.{Relay}
use Rattle.cue_relay.specs.declared.route.Address.{Address}
use Rattle.cue_relay.specs.declared.route.Opening.{Opening}
use Rattle.cue_relay.specs.declared.route.Route.{Route}
use Rattle.cue_relay.specs.declared.route.Way.{Way}
use Rattle.cue_relay.specs.Rates.{admits, meters_after}
use Rattle.cue_relay.specs.Relaying.{message_at, way_of}

-- what comes, at its time: a datagram, with its opening, its sender and its bytes, or nothing
pub data Answer : Type 0 where
  comes : (now : ℕ) (at : Opening) (from : Address) (bytes : List ℕ) → Answer
  ticks : (now : ℕ) → Answer

-- a datagram that is handed on: by which socket, to whom, and its bytes
pub record Sending : Type 0 where
  pub way : Way
  pub bytes : List ℕ

-- nothing went on yet, of any route
abbrev pub no_times : List Route → List (List ℕ)
no_times routes = replicate (length routes) []

-- if both are there
abbrev pub going_of : Option Way → Option Message → Option Going
going_of (Some way) (Some m) = Some (record { way = way; message = m })
going_of (Some way) None = None
going_of None m = None

-- how a datagram would go on, whatever went on before it: by its way, if it says something that may go on there
abbrev pub way_and_message : Relay → Opening → Address → List ℕ → Option Going
way_and_message r at from bytes =
    going_of (way_of r.controller r.routes.now at from (length bytes)) (message_at r.routes.now at bytes)

-- how what comes goes on, given when the last ones went on
abbrev pub goes_on : Relay → List (List ℕ) → Answer → Option Going
goes_on r meters (comes now at from bytes) = if admits meters at now then way_and_message r at from bytes else None
goes_on r meters (ticks now) = None

-- when the last ones went on, once it is dealt with
abbrev pub times_then : Relay → List (List ℕ) → Answer → List (List ℕ)
times_then r meters (comes now at from bytes) =
    if is_some (way_and_message r at from bytes) then meters_after meters at now else meters
times_then r meters (ticks now) = meters

-- the bytes as they came, if they go on
abbrev pub sent_by : List ℕ → Option Going → List Sending
sent_by bytes None = []
sent_by bytes (Some g) = record { way = g.way; bytes = bytes } ∷ []

-- the bytes of what comes
abbrev pub bytes_of : Answer → List ℕ
bytes_of (comes now at from bytes) = bytes
bytes_of (ticks now) = []

-- what is handed on of it
abbrev pub handed_on : Relay → List (List ℕ) → Answer → List Sending
handed_on r meters a = sent_by (bytes_of a) (goes_on r meters a)

-- what is handed on of all that comes, in order, each given those before it
abbrev pub handed_from : Relay → List (List ℕ) → List Answer → List Sending
handed_from r meters [] = []
handed_from r meters (a ∷ more) = handed_on r meters a ++ handed_from r (times_then r meters a) more

-- the same from the first on
abbrev pub all_handed_on : Relay → List Answer → List Sending
all_handed_on r given = handed_from r (no_times r.routes.now) given

-- a datagram came
abbrev pub is_datagram : Answer → Bool
is_datagram (comes now at from bytes) = true
is_datagram (ticks now) = false
