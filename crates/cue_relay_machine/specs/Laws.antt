-- What no life of a relay does, whatever comes and in whatever order.
use Rattle.std.specs.Prelude.{◌≡◌, ◌≤◌, ◌<◌, ◌+◌, ◌^◌, ◌⊎◌, ◌&&◌, ◌==◌, nat_le, ℕ, Bool, true, false, List, []}
use Rattle.std.specs.Prelude.{◌∷◌, ◌++◌, length, map, take, Some}
use Rattle.std.specs.Option.{option_map}
use Rattle.std.specs.Prelude.{slice_get, is_none, count_by, if◌then◌else◌, Contains}
use Rattle.std.specs.List.{list_all}
use Rattle.cue_machine.specs.declared.address.Address as machine
use Rattle.cue_machine.specs.declared.ears.Input.TheVariants as input
use Rattle.cue_machine.specs.declared.post.Output.{Output}
use Rattle.cue_machine.specs.declared.post.Output.TheVariants as output
use Rattle.cue_machine.specs.Living.{AreTurns, Turn}
use Rattle.cue_machine.specs.Posting.{Posted, given_of}
use Rattle.cue_relay.specs.declared.relaying.Counts.{Counts}
use Rattle.cue_relay.specs.declared.relaying.Relay.{Relay}
use Rattle.cue_relay.specs.declared.route.Route.{Route}
use Rattle.cue_relay.specs.declared.status.Ordered.TheVariants.{Go}
use Rattle.cue_relay.specs.declared.route.Side.TheVariants.{Controller, Stage}
use Rattle.cue_relay.specs.Laws.{AtMostAHundred, CameBy, is_controller}
use Rattle.cue_relay.specs.Messages.{IsAnswerOf, IsOrderTo, IsReply}
use Rattle.cue_relay.specs.Relayed.{Answer, Sending, all_handed_on, comes, goes_on, ticks, times_then}
use Rattle.cue_relay.specs.Telling.{claim_of}
use Rattle.cue_relay.specs.Claims.{IsClaimOf, no_claims}
use Rattle.cue_relay.specs.declared.claims.Claim.{Claim}
use Rattle.cue_relay_machine.specs.Told.{claims_of, told_last}
use Rattle.cue_relay_machine.specs.declared.machine.RelayMachine.{RelayMachine}
use Rattle.cue_relay_machine.specs.declared.copies.TheConstants.{FIRST_COPY, LAST_COPY, SECOND_COPY, THIRD_COPY}
use Rattle.cue_relay_machine.specs.Copied.{OnlyCopies, copied, is_quiet, order_at}
use Rattle.cue_relay_machine.specs.Lives.{IsNew, relay_machine}
use Rattle.cue_relay_machine.specs.Steps.{came, state_of}
use Rattle.cue_relay_machine.specs.Turns.{all_at_once, answer_of, copies_at, handed_at, handed_in, sendings, sent_in}

-- a relay had these turns, the first of its life and those after it
pub record HadTurns (m : RelayMachine) (ts : List Turn) (m_then : RelayMachine) : Type 0 where
  pub new : IsNew (state_of m)
  pub turns : AreTurns relay_machine m ts m_then

-- what was handed on as it came is what the definition of the relay makes of what came
abbrev pub HandsOn : Type 0
HandsOn =
    (m : RelayMachine) (ts : List Turn) (m_then : RelayMachine) → HadTurns m ts m_then
    → handed_in ts ≡ all_handed_on m.relay (map answer_of ts)

-- what is sent to the controller is an answer of the device of its route, and came from the device's own address, at
-- the stage's side of that route
abbrev pub HandsOnlyAnswers : Type 0
HandsOnlyAnswers =
    (m : RelayMachine) (ts : List Turn) (m_then : RelayMachine) (s : Sending) → HadTurns m ts m_then
    → Contains (sent_in ts) s → s.way.out.side ≡ Controller
    → (route : Route) × IsAnswerOf route.device s.bytes
    × CameBy m.relay (map answer_of ts) s (record { route = s.way.out.route; side = Stage }) route.address route

-- what is sent to the stage, a copy too, is a reply, or an order to the device of its route; it came from the
-- controller, and is for the address of that device
abbrev pub HandsOnlyOrders : Type 0
HandsOnlyOrders =
    (m : RelayMachine) (ts : List Turn) (m_then : RelayMachine) (s : Sending) → HadTurns m ts m_then
    → Contains (sent_in ts) s → s.way.out.side ≡ Stage
    → (route : Route) × (s.way.to ≡ route.address) × (IsReply s.bytes ⊎ IsOrderTo route.device s.bytes)
    × CameBy m.relay (map answer_of ts) s (record { route = s.way.out.route; side = Controller }) m.relay.controller
    route

-- the time, once for each of these that goes to the controller by the route
abbrev pub times_of_sendings : ℕ → ℕ → List Sending → List ℕ
times_of_sendings route now [] = []
times_of_sendings route now (s ∷ ss) =
    (if is_controller s.way.out.side && (s.way.out.route == route) then now ∷ [] else [])
    ++ times_of_sendings route now ss

-- when something was handed to the controller by the route, in order
abbrev pub times_handed : ℕ → List Turn → List ℕ
times_handed route [] = []
times_handed route (t ∷ ts) =
    times_of_sendings route t.heard.now (sendings (map given_of t.posted)) ++ times_handed route ts

-- of one device at most a hundred datagrams a second are handed to the controller
abbrev pub HandsAtARate : Type 0
HandsAtARate =
    (m : RelayMachine) (ts : List Turn) (m_then : RelayMachine) (route : ℕ) → HadTurns m ts m_then
    → AtMostAHundred (times_handed route ts)

-- of a datagram that was cut goes on what would of it whole, and what is noted is the same
abbrev pub CutIsTheSame : ℕ → Type 0
CutIsTheSame size =
    (r : Relay) (meters : List (List ℕ)) (now at : ℕ) (from : machine.Address) (bytes : List ℕ)
    → (goes_on r meters (came now at from (take size bytes)) ≡ goes_on r meters (came now at from bytes))
    × (times_then r meters (came now at from (take size bytes)) ≡ times_then r meters (came now at from bytes))

-- ---- copies

-- what is sent at a wake is a copy of a GO that came 40 milliseconds ago or less, and after which no other order came
-- to that device
abbrev pub CopiesOnlyGoes : Type 0
CopiesOnlyGoes =
    (m : RelayMachine) (ts : List Turn) (m_then : RelayMachine) → HadTurns m ts m_then → OnlyCopies m.relay [] ts

-- after an order that came, and until the next one to that device, at most three copies are sent to it
abbrev pub SaysFourTimes : Type 0
SaysFourTimes =
    (m : RelayMachine) (before : List Turn) (t : Turn) (since : List Turn) (m_then : RelayMachine) (route : ℕ)
    → HadTurns m (before ++ t ∷ since) m_then → list_all (is_quiet m.relay route) since ≡ true
    → copied route since ≤ 3

-- the time from a GO to its copy, once so many were said
abbrev pub copy_pause : ℕ → ℕ
copy_pause said = if said == 0 then FIRST_COPY else if said == 1 then SECOND_COPY else THIRD_COPY

-- these turns were between the two moments
abbrev pub is_between : (first last : ℕ) → Turn → Bool
is_between first last t = nat_le first t.heard.now && nat_le t.heard.now last

-- A GO is said again: if it was handed on, and no other order came to its device since, a wake at which its next copy
-- is due, and not late, sends it, unless the clock was put back in between.
abbrev pub SaysAgain : Type 0
SaysAgain =
    (m : RelayMachine) (before : List Turn) (first : Turn) (since : List Turn) (t : Turn) (m_then : RelayMachine)
    (s : Sending)
    → HadTurns m (before ++ first ∷ (since ++ t ∷ [])) m_then → Contains (handed_at first) s
    → order_at m.relay s.way.out.route (answer_of first) ≡ Some Go
    → list_all (is_quiet m.relay s.way.out.route) since ≡ true
    → list_all (is_between first.heard.now (first.heard.now + LAST_COPY)) (since ++ t ∷ []) ≡ true
    → copied s.way.out.route since < 3
    → t.heard.input ≡ input.Wake
    → first.heard.now + copy_pause (copied s.way.out.route since) ≤ t.heard.now
    → Contains (copies_at t) s

-- ---- counts

abbrev pub is_send : Output → Bool
is_send (output.Send by to) = true
is_send output.Print = false
is_send output.Say = false
is_send output.Replace = false

-- a datagram that was handed on and was lost
abbrev pub is_lost_sending : Posted → Bool
is_lost_sending p = is_send p.given.output && p.lost

abbrev pub total : Counts → ℕ
total c = c.passed + c.lost + c.dropped

-- what was added to the counts while so many datagrams came and this was posted for them: what was lost, what was
-- handed on, and each datagram once
abbrev pub Adds : (c d : Counts) → (came : ℕ) → List Posted → Type 0
Adds c d came ps =
    (d.lost ≡ c.lost + count_by is_lost_sending ps)
    × (d.passed + d.lost ≡ c.passed + c.lost + length (sendings (map given_of ps)))
    × (total d ≡ total c + came)

-- it is a datagram that tells nothing of its device
abbrev pub is_counted : Relay → Answer → Bool
is_counted r (comes now at from bytes) = is_none (claim_of r (comes now at from bytes))
is_counted r (ticks now) = false

-- the counts of a life are those of what came and was posted for it: copies, which are sent at wakes, are counted
-- nowhere, and what a device tells of itself neither. A life has fewer turns than there are numbers
abbrev pub CountsAll : Type 0
CountsAll =
    (m : RelayMachine) (ts : List Turn) (m_then : RelayMachine) → HadTurns m ts m_then → length ts < 2 ^ 64
    → Adds (record { passed = 0; lost = 0; dropped = 0 }) m_then.books.counts
    (count_by (is_counted m.relay) (map answer_of ts)) (all_at_once ts)

-- ---- claims

-- of each device is kept what it told last of itself, at the stage's side of its own route and from its own address
abbrev pub KeepsClaims : Type 0
KeepsClaims =
    (m : RelayMachine) (ts : List Turn) (m_then : RelayMachine) (n : ℕ) (route : Route) → HadTurns m ts m_then
    → slice_get m.relay.routes.now n ≡ Some route
    → option_map claims_of (slice_get m_then.known.items n)
    ≡ Some (told_last m.relay n no_claims (map answer_of ts))

-- what is handed to the controller is a claim of no device
abbrev pub HandsNoClaim : Type 0
HandsNoClaim =
    (m : RelayMachine) (ts : List Turn) (m_then : RelayMachine) (s : Sending) (d : ℕ) (c : Claim)
    → HadTurns m ts m_then → Contains (sent_in ts) s → s.way.out.side ≡ Controller → IsClaimOf d s.bytes c → ⊥
