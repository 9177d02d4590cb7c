-- A GO is said at most four times, and it is said again.
use Rattle.std.proofs.Common.{◌≡◌, ℕ, ◌+◌, ◌-◌, ◌≤◌, ◌==◌, true, cond, List, [], ◌∷◌}
use Rattle.std.proofs.Common.{◌++◌, Option, Some, None, refl, sym, ap, ◌∙◌, subst, arith}
use Rattle.std.specs.Prelude.{count_by, is_none}
use Rattle.std.specs.List.{list_all}
use Rattle.std.proofs.lemmas.Bool.{and_parts}
use Rattle.cue_machine.specs.declared.address.Address as machine
use Rattle.cue_machine.specs.declared.ears.Input.{Input}
use Rattle.cue_machine.specs.declared.ears.Input.TheVariants as input
use Rattle.cue_machine.specs.Living.{AreTurns, Turn}
use Rattle.cue_relay.specs.declared.going.Going.{Going}
use Rattle.cue_relay.specs.declared.relaying.Relay.{Relay}
use Rattle.cue_relay.specs.declared.status.Ordered.{Ordered}
use Rattle.cue_relay.specs.Rates.{admits}
use Rattle.cue_relay.specs.Relayed.{goes_on, way_and_message}
use Rattle.cue_relay_machine.specs.declared.copies.Waiting.{Waiting}
use Rattle.cue_relay_machine.specs.declared.machine.RelayMachine.{RelayMachine}
use Rattle.cue_relay_machine.specs.Copied.{copied, is_by, is_quiet, order_at, order_going, order_of}
use Rattle.cue_relay_machine.specs.Copies.{wait_at}
use Rattle.cue_relay_machine.specs.Laws.{SaysFourTimes}
use Rattle.cue_relay_machine.specs.Lives.{relay_machine}
use Rattle.cue_relay_machine.specs.Places.{opening_at, relay_address}
use Rattle.cue_relay_machine.specs.Steps.{came, waiting_after}
use Rattle.cue_relay_machine.specs.Turns.{answer_as, answer_of, copies_at}
use Rattle.cue_relay_machine.proofs.LifeLemmas.{admitted, copies_of, turn_hands, waits_of}
use Rattle.cue_relay_machine.proofs.PastLemmas.{came_order, woken_count}
use Rattle.cue_relay_machine.proofs.WaitLemmas.{left, left_at_most, taken_quiet, woken_at, woken_less}

-- ---- quiet turns

pub quiet_none : (o : Option Ordered) → is_none o ≡ true → o ≡ None
quiet_none None e = refl
quiet_none (Some x) e = absurd cc

-- what waits at a route stays there while datagrams come and no order to its device does
pub datagram_stays : (r : Relay) (meters : List (List ℕ)) (t : Turn) (os : List (Option Waiting)) (at now : ℕ)
    (from : machine.Address) (bytes : List ℕ) (o : Option Going) (route : ℕ)
    → answer_of t ≡ came now at from bytes → goes_on r meters (came now at from bytes) ≡ o
    → order_at r route (answer_of t) ≡ None
    → wait_at (waiting_after os at now bytes o) route ≡ wait_at os route
datagram_stays r meters t os at now from bytes None route a e quiet = refl
datagram_stays r meters t os at now from bytes (Some g) route a e quiet =
    let way : way_and_message r (opening_at at) (relay_address from) bytes ≡ Some g =
    admitted (admits meters (opening_at at) now) (way_and_message r (opening_at at) (relay_address from) bytes) g e in
    let none : cond ((opening_at at).route == route) (order_of g.message) None ≡ None =
    ap (λ (x : Option Going). cond ((opening_at at).route == route) (order_going x) None) (sym way)
    ∙ (sym (came_order r route t now at from bytes a) ∙ quiet) in
    taken_quiet os route (opening_at at).route now g bytes none

-- ---- at most four times

-- a quiet turn takes from what waits what it sends
turn_less : (r : Relay) (meters : List (List ℕ)) (t : Turn) (os : List (Option Waiting)) (i : Input) (bytes : List ℕ)
    (route : ℕ)
    → answer_of t ≡ answer_as t.heard.now i bytes → copies_at t ≡ copies_of i os t.heard.now
    → order_at r route (answer_of t) ≡ None
    → count_by (is_by route) (copies_at t) + left (wait_at (waits_of r meters t.heard.now i bytes os) route)
    ≤ left (wait_at os route)
turn_less r meters t os (input.Datagram at from) bytes route a copies quiet =
    let stays = datagram_stays r meters t os at t.heard.now from bytes
    (goes_on r meters (came t.heard.now at from bytes)) route a refl quiet in
    omega (arith, ap (count_by (is_by route)) copies, ap left stays)
turn_less r meters t os (input.Refused at) bytes route a copies quiet =
    omega (arith, ap (count_by (is_by route)) copies)
turn_less r meters t os input.Wake bytes route a copies quiet =
    omega (
      arith,
      woken_count os t.heard.now route (copies_at t) copies,
      ap left (woken_at os route t.heard.now),
      woken_less (wait_at os route) t.heard.now,
    )

turns_less : (m : RelayMachine) (ts : List Turn) (m_then : RelayMachine) (route : ℕ)
    → AreTurns relay_machine m ts m_then → list_all (is_quiet m.relay route) ts ≡ true
    → copied route ts + left (wait_at m_then.waiting.items route) ≤ left (wait_at m.waiting.items route)
turns_less m [] m_then route h quiet = rw h (omega arith)
turns_less m (t ∷ ts) m_then route h quiet =
    let one = turn_hands m t h.0 h.1 in
    let parts = and_parts (is_quiet m.relay route t) (list_all (is_quiet m.relay route) ts) quiet in
    let first = turn_less m.relay m.meters.items t m.waiting.items t.heard.input t.heard.bytes route refl one.copied
    (quiet_none (order_at m.relay route (answer_of t)) parts.0) in
    let there : left (wait_at h.0.waiting.items route)
    ≡ left (wait_at (waits_of m.relay m.meters.items t.heard.now t.heard.input t.heard.bytes m.waiting.items) route) =
    ap (λ (os : List (Option Waiting)). left (wait_at os route)) one.waits in
    let more = turns_less h.0 ts m_then route h.2
    (subst (λ (r : Relay). list_all (is_quiet r route) ts ≡ true) (sym one.relay) parts.1) in
    omega (arith, first, there, more)

-- the turns up to one, and those from it on
pub record Parted (m : RelayMachine) (before after : List Turn) (m_then : RelayMachine) : Type 0 where
  pub mid : RelayMachine
  pub first : AreTurns relay_machine m before mid
  pub rest : AreTurns relay_machine mid after m_then
  pub relay : mid.relay ≡ m.relay

pub parted : (m : RelayMachine) (before after : List Turn) (m_then : RelayMachine)
    → AreTurns relay_machine m (before ++ after) m_then → Parted m before after m_then
parted m [] after m_then h = record { mid = m; first = refl; rest = h; relay = refl }
parted m (t ∷ ts) after m_then h =
    let more = parted h.0 ts after m_then h.2 in
    record {
      mid = more.mid;
      first = (h.0, h.1, more.first);
      rest = more.rest;
      relay = more.relay ∙ (turn_hands m t h.0 h.1).relay;
    }

pub says-four-times : SaysFourTimes
says-four-times m before t since m_then route h quiet =
    let at = parted m before (t ∷ since) m_then h.turns in
    let one = turn_hands at.mid t at.rest.0 at.rest.1 in
    let less = turns_less at.rest.0 since m_then route at.rest.2
    (subst (λ (r : Relay). list_all (is_quiet r route) since ≡ true) (sym (one.relay ∙ at.relay)) quiet) in
    omega (arith, less, left_at_most (wait_at at.rest.0.waiting.items route))
