-- What no life of a relay does.
use Rattle.std.proofs.Common.{◌≡◌, ℕ, ◌+◌, ◌&&◌, ◌==◌, ◌⊎◌, inl, inr, Bool, true, false, List, [], ◌∷◌, ◌++◌, map, cond}
use Rattle.std.proofs.Common.{Option, Some, None, refl, sym, ap, ◌∙◌, subst, arith, append-nil}
use Rattle.std.specs.Prelude.{Contains}
use Rattle.std.proofs.lemmas.List.Elements.{Contains-append_cases, Contains-append_left, Contains-append_right}
use Rattle.std.proofs.lemmas.List.{map-append}
use Rattle.cue_machine.specs.declared.ears.Input.{Input}
use Rattle.cue_machine.specs.declared.ears.Input.TheVariants as input
use Rattle.cue_machine.specs.Living.{AreTurns, Turn, all_posted}
use Rattle.cue_machine.specs.Posting.{Posted, given_of}
use Rattle.cue_relay.specs.declared.going.Going.{Going}
use Rattle.cue_relay.specs.declared.relaying.Relay.{Relay}
use Rattle.cue_relay.specs.Laws.{AtMostAHundred, is_controller}
use Rattle.cue_relay.specs.Relayed.{Sending, all_handed_on, goes_on, handed_on, no_times, sent_by, times_then}
use Rattle.cue_relay.proofs.RateLemmas.{at-a-rate, time_to_controller, times_to_controller}
use Rattle.cue_relay.proofs.WayLemmas.{only-answers, only-orders}
use Rattle.cue_relay_machine.specs.declared.copies.Waiting.{Waiting}
use Rattle.cue_relay_machine.specs.declared.machine.RelayMachine.{RelayMachine}
use Rattle.cue_relay_machine.specs.Copied.{IsCopy, OnlyCopies}
use Rattle.cue_relay_machine.specs.Copies.{is_said}
use Rattle.cue_relay_machine.specs.Laws.{CopiesOnlyGoes, HandsAtARate, HandsOn, HandsOnlyAnswers, HandsOnlyOrders}
use Rattle.cue_relay_machine.specs.Laws.{HadTurns, times_handed, times_of_sendings}
use Rattle.cue_relay_machine.specs.Lives.{relay_machine}
use Rattle.cue_relay_machine.specs.Steps.{State, came}
use Rattle.cue_relay_machine.specs.Turns.{answer_as, answer_of, at_once, at_wake, handed_at, handed_in}
use Rattle.cue_relay_machine.specs.Turns.{sendings, sent_in}
use Rattle.cue_relay_machine.proofs.CopyLemmas.{copies_from, copy_of, from_is, in_one, none_in}
use Rattle.cue_relay_machine.proofs.LifeLemmas.{copies_of, handed_more, life_hands, sendings_both, turn_hands}
use Rattle.cue_relay_machine.proofs.PastLemmas.{new_waits, turns_copy}

pub hands-on : HandsOn
hands-on m ts m_then h = life_hands m ts m_then h.new h.turns

pub copies-only-goes : CopiesOnlyGoes
copies-only-goes m ts m_then h = turns_copy m [] ts m_then (new_waits m h.new) h.turns

-- ---- what was sent

-- what was posted was posted at what came or at a wake
posted_when : (i : Input) (ps : List Posted) (s : Sending) → Contains (sendings (map given_of ps)) s
    → Contains (sendings (map given_of (at_once i ps))) s ⊎ Contains (sendings (map given_of (at_wake i ps))) s
posted_when (input.Datagram at from) ps s h = inl h
posted_when (input.Refused at) ps s h = inl h
posted_when input.Wake ps s h = inr h

-- it was handed on as it came, in one of these turns
record WasHanded (past : List Turn) (s : Sending) : Type 0 where
  turn : Turn
  there : Contains past turn
  handed : Contains (handed_at turn) s

copy_handed : (r : Relay) (past : List Turn) (now : ℕ) (s : Sending) → IsCopy r past now s → WasHanded past s
copy_handed r past now s c = record {
  turn = c.first;
  there = subst (λ (ts : List Turn). Contains ts c.first) (sym c.split)
      (Contains-append_right c.since (c.first ∷ c.earlier) c.first (0, omega arith, refl));
  handed = subst (λ (ss : List Sending). Contains ss s) (sym c.handed) (0, omega arith, refl);
}

handed_first : (t : Turn) (ts : List Turn) (s : Sending) → Contains (handed_at t) s → Contains (handed_in (t ∷ ts)) s
handed_first t ts s h =
    subst (λ (ss : List Sending). Contains ss s) (sym (handed_more t ts))
    (Contains-append_left (handed_at t) (handed_in ts) s h)

handed_later : (t : Turn) (ts : List Turn) (s : Sending) → Contains (handed_in ts) s → Contains (handed_in (t ∷ ts)) s
handed_later t ts s h =
    subst (λ (ss : List Sending). Contains ss s) (sym (handed_more t ts))
    (Contains-append_right (handed_at t) (handed_in ts) s h)

sent_more : (t : Turn) (ts : List Turn) → sent_in (t ∷ ts) ≡ sendings (map given_of t.posted) ++ sent_in ts
sent_more t ts =
    ap sendings (map-append given_of t.posted (all_posted ts))
    ∙ sendings_both (map given_of t.posted) (map given_of (all_posted ts))

-- the turn was the last one, or before it
past_cases : (t : Turn) (past ts : List Turn) (s : Sending) → WasHanded (t ∷ past) s
    → Contains (handed_in (t ∷ ts)) s ⊎ WasHanded past s
past_cases t past ts s h =
    elim (Contains-append_cases (t ∷ []) past h.turn h.there) [
      | inl one ↦ inl (handed_first t ts s (subst (λ (u : Turn). Contains (handed_at u) s) (sym (in_one t h.turn one))
          h.handed))
      | inr more ↦ inr (record { turn = h.turn; there = more; handed = h.handed })
    ]

-- all that was sent was handed on as it came, in these turns or before
sent_cases : (r : Relay) (past ts : List Turn) (s : Sending) → OnlyCopies r past ts → Contains (sent_in ts) s
    → Contains (handed_in ts) s ⊎ WasHanded past s
sent_cases r past [] s c h = none_in s h
sent_cases r past (t ∷ ts) s c h =
    elim (Contains-append_cases (sendings (map given_of t.posted)) (sent_in ts) s
    (subst (λ (ss : List Sending). Contains ss s) (sent_more t ts) h)) [
      | inl now ↦ elim (posted_when t.heard.input t.posted s now) [
        | inl once ↦ inl (handed_first t ts s once)
        | inr wake ↦ inr (copy_handed r past t.heard.now s (c.0 s wake))
      ]
      | inr later ↦ elim (sent_cases r (t ∷ past) ts s c.1 later) [
        | inl handed ↦ inl (handed_later t ts s handed)
        | inr before ↦ past_cases t past ts s before
      ]
    ]

all_handed : (m : RelayMachine) (ts : List Turn) (m_then : RelayMachine) (s : Sending) → HadTurns m ts m_then
    → Contains (sent_in ts) s → Contains (all_handed_on m.relay (map answer_of ts)) s
all_handed m ts m_then s h in_it =
    let handed : Contains (handed_in ts) s =
    elim (sent_cases m.relay [] ts s (copies-only-goes m ts m_then h) in_it) [
      | inl k ↦ k
      | inr k ↦ none_in k.turn k.there
    ] in
    subst (λ (ss : List Sending). Contains ss s) (hands-on m ts m_then h) handed

pub hands-only-answers : HandsOnlyAnswers
hands-only-answers m ts m_then s h in_it side =
    only-answers m.relay (map answer_of ts) s (all_handed m ts m_then s h in_it) side

pub hands-only-orders : HandsOnlyOrders
hands-only-orders m ts m_then s h in_it side =
    only-orders m.relay (map answer_of ts) s (all_handed m ts m_then s h in_it) side

-- ---- the rate

times_by : (route now : ℕ) (i : Input) (bytes : List ℕ) (o : Option Going) (r : Relay) (meters : List (List ℕ))
    → goes_on r meters (answer_as now i bytes) ≡ o
    → times_of_sendings route now (sent_by bytes o) ≡ time_to_controller route (answer_as now i bytes) o
times_by route now (input.Datagram at from) bytes None r meters e = refl
times_by route now (input.Datagram at from) bytes (Some g) r meters e =
    append-nil (cond (is_controller g.way.out.side && (g.way.out.route == route)) (now ∷ []) [])
times_by route now (input.Refused at) bytes None r meters e = refl
times_by route now (input.Refused at) bytes (Some g) r meters e = cc
times_by route now input.Wake bytes None r meters e = refl
times_by route now input.Wake bytes (Some g) r meters e = cc

times_of : (route now : ℕ) (i : Input) (bytes : List ℕ) (r : Relay) (meters : List (List ℕ))
    → times_of_sendings route now (handed_on r meters (answer_as now i bytes))
    ≡ time_to_controller route (answer_as now i bytes) (goes_on r meters (answer_as now i bytes))
times_of route now (input.Datagram at from) bytes r meters =
    times_by route now (input.Datagram at from) bytes (goes_on r meters (came now at from bytes)) r meters refl
times_of route now (input.Refused at) bytes r meters = refl
times_of route now input.Wake bytes r meters = refl

-- no copy goes to the controller
none_to_controller : (route now base : ℕ) (os : List (Option Waiting)) (at : ℕ)
    → times_of_sendings route now (copies_from base os at) ≡ []
none_to_controller route now base [] at = refl
none_to_controller route now base (None ∷ os) at = none_to_controller route now (base + 1) os at
none_to_controller route now base (Some w ∷ os) at =
    by (is_said w at) (none_to_controller route now (base + 1) os at)
  where
    by : (b : Bool) → times_of_sendings route now (copies_from (base + 1) os at) ≡ []
        → times_of_sendings route now (cond b (copy_of base w ∷ []) [] ++ copies_from (base + 1) os at) ≡ []
    by true more = more
    by false more = more

-- so what goes to the controller goes as it came
times_once : (route now : ℕ) (i : Input) (ps : List Posted) (os : List (Option Waiting)) (at : ℕ)
    → sendings (map given_of (at_wake i ps)) ≡ copies_of i os at
    → times_of_sendings route now (sendings (map given_of ps))
    ≡ times_of_sendings route now (sendings (map given_of (at_once i ps)))
times_once route now (input.Datagram at from) ps os moment e = refl
times_once route now (input.Refused at) ps os moment e = refl
times_once route now input.Wake ps os moment e =
    ap (times_of_sendings route now) (e ∙ from_is 0 os moment) ∙ none_to_controller route now 0 os moment

times_turns : (m : RelayMachine) (ts : List Turn) (m_then : RelayMachine) (route : ℕ)
    → AreTurns relay_machine m ts m_then
    → times_handed route ts ≡ times_to_controller m.relay route m.meters.items (map answer_of ts)
times_turns m [] m_then route h = refl
times_turns m (t ∷ ts) m_then route h =
    let one = turn_hands m t h.0 h.1 in
    let meters = m.meters.items in
    let first : times_of_sendings route t.heard.now (sendings (map given_of t.posted))
    ≡ time_to_controller route (answer_of t) (goes_on m.relay meters (answer_of t)) =
    times_once route t.heard.now t.heard.input t.posted m.waiting.items t.heard.now one.copied
    ∙ ap (times_of_sendings route t.heard.now) one.handed
    ∙ times_of route t.heard.now t.heard.input t.heard.bytes m.relay meters in
    let more : times_handed route ts
    ≡ times_to_controller m.relay route (times_then m.relay meters (answer_of t)) (map answer_of ts) =
    times_turns h.0 ts m_then route h.2
    ∙ (ap (λ (r : Relay). times_to_controller r route h.0.meters.items (map answer_of ts)) one.relay
    ∙ ap (λ (x : List (List ℕ)). times_to_controller m.relay route x (map answer_of ts)) one.noted) in
    ap (λ (xs : List ℕ). xs ++ times_handed route ts) first
    ∙ ap (λ (xs : List ℕ). time_to_controller route (answer_of t) (goes_on m.relay meters (answer_of t)) ++ xs) more

pub hands-at-a-rate : HandsAtARate
hands-at-a-rate m ts m_then route h =
    let start : m.meters.items ≡ no_times m.relay.routes.now = ap (λ (s : State). s.meters) h.new in
    let same : times_handed route ts
    ≡ times_to_controller m.relay route (no_times m.relay.routes.now) (map answer_of ts) =
    times_turns m ts m_then route h.turns
    ∙ ap (λ (x : List (List ℕ)). times_to_controller m.relay route x (map answer_of ts)) start in
    subst AtMostAHundred (sym same) (at-a-rate m.relay (map answer_of ts) route)
