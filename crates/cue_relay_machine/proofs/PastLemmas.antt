-- What waits at a route is a GO that was handed on, with no other order since: what is sent at a wake is a copy of it.
use Rattle.std.proofs.Common.{◌≡◌, ℕ, zero, suc, ◌+◌, ◌<◌, ◌≤◌, ◌==◌, Bool, true, false, cond, List, [], ◌∷◌, ◌++◌}
use Rattle.std.proofs.Common.{length, Option, Some, None, refl, sym, ap, ◌∙◌, subst, arith}
use Rattle.std.specs.Prelude.{Contains, count_by, nat_le, nat_lt, replicate}
use Rattle.std.specs.List.{list_all}
use Rattle.std.proofs.lemmas.Bool.{eq-eqb, eqb-true, ltb-false, ltb-true}
use Rattle.std.proofs.lemmas.List.{length-set}
use Rattle.std.proofs.lemmas.Option.{none-some, same_Some}
use Rattle.cue_machine.specs.declared.address.Address as machine
use Rattle.cue_machine.specs.declared.ears.Input.{Input}
use Rattle.cue_machine.specs.declared.ears.Input.TheVariants as input
use Rattle.cue_machine.specs.Living.{AreTurns, Turn}
use Rattle.cue_relay.specs.declared.going.Going.{Going}
use Rattle.cue_relay.specs.declared.messages.Message.{Message}
use Rattle.cue_relay.specs.declared.messages.Message.TheVariants as says
use Rattle.cue_relay.specs.declared.relaying.Relay.{Relay}
use Rattle.cue_relay.specs.declared.route.Opening.{Opening}
use Rattle.cue_relay.specs.declared.route.Side.{Side}
use Rattle.cue_relay.specs.declared.route.Side.TheVariants.{Controller, Stage}
use Rattle.cue_relay.specs.declared.status.Ordered.{Ordered}
use Rattle.cue_relay.specs.declared.status.Ordered.TheVariants.{Standby, Go, Cancel}
use Rattle.cue_relay.specs.Rates.{admits}
use Rattle.cue_relay.specs.Relayed.{Sending, goes_on, handed_on, sent_by, way_and_message}
use Rattle.cue_relay.specs.Relaying.{across}
use Rattle.cue_relay.proofs.WayLemmas.{goes}
use Rattle.cue_relay_machine.specs.declared.copies.Said.{Said}
use Rattle.cue_relay_machine.specs.declared.copies.Said.TheVariants.{Once, Twice, Thrice}
use Rattle.cue_relay_machine.specs.declared.copies.TheConstants.{GO_BYTES}
use Rattle.cue_relay_machine.specs.declared.copies.Waiting.{Waiting}
use Rattle.cue_relay_machine.specs.declared.machine.RelayMachine.{RelayMachine}
use Rattle.cue_relay_machine.specs.Copied.{IsCopy, OnlyCopies, copied, is_by, is_quiet, order_at, order_going, order_of}
use Rattle.cue_relay_machine.specs.Copies.{after_going, after_message, after_wake, go_waits, is_late}
use Rattle.cue_relay_machine.specs.Copies.{is_said, once_more, taken_at, wait_at}
use Rattle.cue_relay_machine.specs.Lives.{IsNew, relay_machine}
use Rattle.cue_relay_machine.specs.Places.{machine_address, opening_at, relay_address}
use Rattle.cue_relay_machine.specs.Steps.{State, came, state_of, waiting_after}
use Rattle.cue_relay_machine.specs.Turns.{answer_as, answer_of, copies_at, handed_at}
use Rattle.cue_relay_machine.proofs.CopyLemmas.{copy_of, count_at, from_is, none_in, of_from}
use Rattle.cue_relay_machine.proofs.CopyLemmas.{said_count, wait_past}
use Rattle.cue_relay_machine.proofs.LifeLemmas.{admitted, copies_of, turn_hands, waits_of}
use Rattle.cue_relay_machine.proofs.WaitLemmas.{none_quiet, order_side, said_time}
use Rattle.cue_relay_machine.proofs.WaitLemmas.{taken_other, taken_same, woken_at}

-- how often it was said
abbrev pub times : Said → ℕ
times Once = 1
times Twice = 2
times Thrice = 3

-- What waits at a route was handed on in one of the turns before, the latest first. It was a GO, no other order came
-- since, and as many copies of it were sent as it says.
pub record Waits (r : Relay) (route : ℕ) (past : List Turn) (w : Waiting) : Type 0 where
  pub since : List Turn
  pub first : Turn
  pub earlier : List Turn
  pub split : past ≡ since ++ first ∷ earlier
  pub handed : handed_at first ≡ copy_of route w ∷ []
  pub is_go : order_at r route (answer_of first) ≡ Some Go
  pub no_order : list_all (is_quiet r route) since ≡ true
  pub said : copied route since + 1 ≡ times w.said
  pub came : first.heard.now ≡ w.came

-- so it is at each route
abbrev pub AllWait : Relay → List Turn → List (Option Waiting) → Type 0
AllWait r past os = (route : ℕ) (w : Waiting) → wait_at os route ≡ Some w → Waits r route past w

-- ---- one turn more

quiet_all : (r : Relay) (route : ℕ) (t : Turn) (ts : List Turn) → order_at r route (answer_of t) ≡ None
    → list_all (is_quiet r route) ts ≡ true → list_all (is_quiet r route) (t ∷ ts) ≡ true
quiet_all r route t ts quiet e = rw quiet e

-- no order came, and so many copies were sent
waits_on : (r : Relay) (route : ℕ) (t : Turn) (past : List Turn) (w w_then : Waiting) → Waits r route past w
    → order_at r route (answer_of t) ≡ None → copy_of route w_then ≡ copy_of route w → w_then.came ≡ w.came
    → count_by (is_by route) (copies_at t) + times w.said ≡ times w_then.said → Waits r route (t ∷ past) w_then
waits_on r route t past w w_then h quiet same at more = record {
  since = t ∷ h.since;
  first = h.first;
  earlier = h.earlier;
  split = ap (λ (ts : List Turn). t ∷ ts) h.split;
  handed = h.handed ∙ ap (λ (s : Sending). s ∷ []) (sym same);
  is_go = h.is_go;
  no_order = quiet_all r route t h.since quiet h.no_order;
  said = omega (arith, more, h.said);
  came = h.came ∙ sym at;
}

-- ---- a wake

-- so many copies are sent by the route at a wake
pub woken_count : (os : List (Option Waiting)) (now route : ℕ) (ss : List Sending)
    → ss ≡ copies_of input.Wake os now → count_by (is_by route) ss ≡ said_count (wait_at os route) now
woken_count os now route ss e =
    ap (count_by (is_by route)) (e ∙ from_is 0 os now) ∙ count_at route 0 route os now (omega arith)

pub record Woken (w : Waiting) (now : ℕ) (w_then : Waiting) : Type 0 where
  pub came : w_then.came ≡ w.came
  pub to : w_then.to ≡ w.to
  pub bytes : w_then.bytes ≡ w.bytes
  pub more : said_count (Some w) now + times w.said ≡ times w_then.said

more_said : (w w_then : Waiting) (now : ℕ) (x : Said) → w.said ≡ x → is_said w now ≡ true
    → once_more w ≡ Some w_then → Woken w now w_then
more_said w w_then now Once e said k =
    let made : once_more w ≡ Some (record w { said = Twice }) = rw e refl in
    let same : record w { said = Twice } ≡ w_then = same_Some (record w { said = Twice }) w_then (sym made ∙ k) in
    subst (Woken w now) same (record { came = refl; to = refl; bytes = refl; more = rw (said, e) refl })
more_said w w_then now Twice e said k =
    let made : once_more w ≡ Some (record w { said = Thrice }) = rw e refl in
    let same : record w { said = Thrice } ≡ w_then = same_Some (record w { said = Thrice }) w_then (sym made ∙ k) in
    subst (Woken w now) same (record { came = refl; to = refl; bytes = refl; more = rw (said, e) refl })
more_said w w_then now Thrice e said k =
    let none : once_more w ≡ None = rw e refl in
    absurd (none-some w_then (sym none ∙ k))

pub woken_is : (w w_then : Waiting) (now : ℕ) → after_wake now (Some w) ≡ Some w_then → Woken w now w_then
woken_is w w_then now e = late (is_late w now) refl e
  where
    said : (b : Bool) → is_said w now ≡ b → cond b (once_more w) (Some w) ≡ Some w_then → Woken w now w_then
    said true f k = more_said w w_then now w.said refl f k
    said false f k =
        subst (Woken w now) (same_Some w w_then k)
        (record { came = refl; to = refl; bytes = refl; more = rw f (omega arith) })

    late : (b : Bool) → is_late w now ≡ b
        → cond b None (cond (is_said w now) (once_more w) (Some w)) ≡ Some w_then → Woken w now w_then
    late true f k = absurd (none-some w_then k)
    late false f k = said (is_said w now) refl k

pub copy_same : (route : ℕ) (w w_then : Waiting) (now : ℕ) → Woken w now w_then
    → copy_of route w_then ≡ copy_of route w
copy_same route w w_then now k =
    ap (λ (x : machine.Address). record {
      way = record { out = record { route = route; side = Stage }; to = relay_address x };
      bytes = w_then.bytes;
    }) k.to
    ∙ ap (λ (x : List ℕ). record {
      way = record { out = record { route = route; side = Stage }; to = relay_address w.to };
      bytes = x;
    }) k.bytes

wake_keeps : (r : Relay) (t : Turn) (past : List Turn) (os : List (Option Waiting)) (route : ℕ) (o : Option Waiting)
    (w_then : Waiting)
    → (order_at r route (answer_of t) ≡ None) → copies_at t ≡ copies_of input.Wake os t.heard.now
    → AllWait r past os → wait_at os route ≡ o → after_wake t.heard.now o ≡ Some w_then
    → Waits r route (t ∷ past) w_then
wake_keeps r t past os route None w_then quiet sent h e k = absurd (none-some w_then k)
wake_keeps r t past os route (Some w) w_then quiet sent h e k =
    let is = woken_is w w_then t.heard.now k in
    let count : count_by (is_by route) (copies_at t) ≡ said_count (Some w) t.heard.now =
    woken_count os t.heard.now route (copies_at t) sent ∙ ap (λ (x : Option Waiting). said_count x t.heard.now) e in
    waits_on r route t past w w_then (h route w e) quiet (copy_same route w w_then t.heard.now is) is.came
    (omega (arith, count, is.more))

-- ---- a datagram

-- a GO came at the controller's side, so it leaves by the stage's
pub go_out : (r : Relay) (at : ℕ) (from : machine.Address) (bytes : List ℕ) (g : Going) (seq : ℕ)
    → way_and_message r (opening_at at) (relay_address from) bytes ≡ Some g → g.message ≡ says.Order Go seq
    → ((opening_at at).side ≡ Controller) × (g.way.out ≡ record { route = (opening_at at).route; side = Stage })
go_out r at from bytes g seq way m =
    let w = goes r (opening_at at) (relay_address from) bytes g way in
    let side : (opening_at at).side ≡ Controller =
    order_side r (opening_at at) (relay_address from) bytes g way (λ e. none-some Go (sym e ∙ ap order_of m)) in (
      side,
      ap (λ (x : ℕ). record { route = x; side = g.way.out.side }) w.out
          ∙ ap (λ (x : Side). record { route = (opening_at at).route; side = x }) (w.side ∙ ap across side),
    )

-- a GO that goes on, and what waits then
new_wait : (r : Relay) (meters : List (List ℕ)) (t : Turn) (past : List Turn) (at now : ℕ) (from : machine.Address)
    (bytes : List ℕ) (g : Going) (seq : ℕ) (w : Waiting)
    → answer_of t ≡ came now at from bytes → t.heard.now ≡ now
    → handed_at t ≡ sent_by bytes (Some g)
    → way_and_message r (opening_at at) (relay_address from) bytes ≡ Some g → g.message ≡ says.Order Go seq
    → go_waits now (machine_address g.way.to) bytes ≡ Some w
    → Waits r (opening_at at).route (t ∷ past) w
new_wait r meters t past at now from bytes g seq w a n sent way m k =
    by (nat_le (length bytes) GO_BYTES) k
  where
    made : Waiting
    made = record { came = now; said = Once; to = machine_address g.way.to; bytes = bytes }

    out : g.way.out ≡ record { route = (opening_at at).route; side = Stage }
    out = (go_out r at from bytes g seq way m).1

    go_at : order_at r (opening_at at).route (answer_of t) ≡ Some Go
    go_at =
        ap (order_at r (opening_at at).route) a
        ∙ (ap (λ (b : Bool). cond b (order_going (way_and_message r (opening_at at) (relay_address from) bytes)) None)
        (eq-eqb (opening_at at).route (opening_at at).route refl)
        ∙ (ap order_going way ∙ ap order_of m))

    here : Waits r (opening_at at).route (t ∷ past) made
    here = record {
      since = [];
      first = t;
      earlier = past;
      split = refl;
      handed = sent
          ∙ ap (λ (x : Opening). record { way = record { out = x; to = g.way.to }; bytes = bytes } ∷ []) out;
      is_go = go_at;
      no_order = refl;
      said = refl;
      came = n;
    }

    by : (b : Bool) → cond b (Some made) None ≡ Some w → Waits r (opening_at at).route (t ∷ past) w
    by true e = subst (Waits r (opening_at at).route (t ∷ past)) (same_Some made w e) here
    by false e = absurd (none-some w e)

-- what went on by a route decides what waits there
taken_keeps : (r : Relay) (meters : List (List ℕ)) (t : Turn) (past : List Turn) (os : List (Option Waiting))
    (at now : ℕ) (from : machine.Address) (bytes : List ℕ) (g : Going) (m : Message) (w : Waiting)
    → answer_of t ≡ came now at from bytes → t.heard.now ≡ now → handed_at t ≡ sent_by bytes (Some g)
    → copies_at t ≡ []
    → way_and_message r (opening_at at) (relay_address from) bytes ≡ Some g → g.message ≡ m
    → AllWait r past os
    → after_message m (wait_at os (opening_at at).route) now (machine_address g.way.to) bytes ≡ Some w
    → (order_of m ≡ None → order_at r (opening_at at).route (answer_of t) ≡ None)
    → Waits r (opening_at at).route (t ∷ past) w
taken_keeps r meters t past os at now from bytes g (says.Order Go seq) w a n sent none way m h k quiet =
    new_wait r meters t past at now from bytes g seq w a n sent way m k
taken_keeps r meters t past os at now from bytes g (says.Order Standby seq) w a n sent none way m h k quiet =
    absurd (none-some w k)
taken_keeps r meters t past os at now from bytes g (says.Order Cancel seq) w a n sent none way m h k quiet =
    absurd (none-some w k)
taken_keeps r meters t past os at now from bytes g says.Reply w a n sent none way m h k quiet =
    waits_on r (opening_at at).route t past w w (h (opening_at at).route w k) (quiet refl) refl refl
    (omega (arith, ap (count_by (is_by (opening_at at).route)) none))
taken_keeps r meters t past os at now from bytes g (says.Answer x) w a n sent none way m h k quiet =
    waits_on r (opening_at at).route t past w w (h (opening_at at).route w k) (quiet refl) refl refl
    (omega (arith, ap (count_by (is_by (opening_at at).route)) none))

-- nothing waits where there is no route
within_of : (os : List (Option Waiting)) (route : ℕ) (w : Waiting) → wait_at os route ≡ Some w → route < length os
within_of os route w e = by (nat_lt route (length os)) refl
  where
    by : (b : Bool) → nat_lt route (length os) ≡ b → route < length os
    by true k = ltb-true route (length os) k
    by false k =
        absurd (none-some w (sym (wait_past os route (ltb-false route (length os) k)) ∙ e))

none_within : (b : Bool) (o : Option Ordered) → o ≡ None → cond b o None ≡ None
none_within true o e = e
none_within false o e = refl

-- an order that came, if one did
pub came_order : (r : Relay) (route : ℕ) (t : Turn) (now at : ℕ) (from : machine.Address) (bytes : List ℕ)
    → answer_of t ≡ came now at from bytes
    → order_at r route (answer_of t)
    ≡ cond ((opening_at at).route == route)
    (order_going (way_and_message r (opening_at at) (relay_address from) bytes)) None
came_order r route t now at from bytes a = ap (order_at r route) a

datagram_keeps : (r : Relay) (meters : List (List ℕ)) (t : Turn) (past : List Turn) (os : List (Option Waiting))
    (at now : ℕ) (from : machine.Address) (bytes : List ℕ) (o : Option Going) (route : ℕ) (w : Waiting)
    → answer_of t ≡ came now at from bytes → t.heard.now ≡ now → handed_at t ≡ sent_by bytes o → copies_at t ≡ []
    → goes_on r meters (came now at from bytes) ≡ o → AllWait r past os
    → wait_at (waiting_after os at now bytes o) route ≡ Some w → Waits r route (t ∷ past) w
datagram_keeps r meters t past os at now from bytes None route w a n sent none g h k =
    let quiet : order_at r route (answer_of t) ≡ None =
    came_order r route t now at from bytes a
    ∙ none_within ((opening_at at).route == route)
    (order_going (way_and_message r (opening_at at) (relay_address from) bytes))
    (none_quiet r meters now (opening_at at) (relay_address from) bytes g) in
    waits_on r route t past w w (h route w k) quiet refl refl (omega (arith, ap (count_by (is_by route)) none))
datagram_keeps r meters t past os at now from bytes (Some g) route w a n sent none e h k =
    by ((opening_at at).route == route) refl
  where
    p : ℕ
    p = (opening_at at).route

    way : way_and_message r (opening_at at) (relay_address from) bytes ≡ Some g
    way =
        admitted (admits meters (opening_at at) now) (way_and_message r (opening_at at) (relay_address from) bytes) g e

    by : (b : Bool) → (p == route) ≡ b → Waits r route (t ∷ past) w
    by false f =
        let other : wait_at os route ≡ Some w = sym (taken_other os route p now g bytes f) ∙ k in
        let quiet : order_at r route (answer_of t) ≡ None =
        came_order r route t now at from bytes a
        ∙ ap (λ (b : Bool). cond b (order_going (way_and_message r (opening_at at) (relay_address from) bytes)) None)
        f in
        waits_on r route t past w w (h route w other) quiet refl refl
        (omega (arith, ap (count_by (is_by route)) none))
    by true f =
        let same : p ≡ route = eqb-true p route f in
        let here : wait_at (taken_at os p now g bytes) p ≡ Some w =
        subst (λ (n : ℕ). wait_at (taken_at os p now g bytes) n ≡ Some w) (sym same) k in
        let within : p < length os =
        subst (λ (n : ℕ). p < n) (length-set os p (after_going (wait_at os p) now g bytes))
        (within_of (taken_at os p now g bytes) p w here) in
        let after : after_message g.message (wait_at os p) now (machine_address g.way.to) bytes ≡ Some w =
        sym (taken_same os p p now g bytes (eq-eqb p p refl) within) ∙ here in
        let quiet : order_of g.message ≡ None → order_at r p (answer_of t) ≡ None = λ unordered.
        came_order r p t now at from bytes a
        ∙ none_within (p == p) (order_going (way_and_message r (opening_at at) (relay_address from) bytes))
        (ap order_going way ∙ unordered) in
        subst (λ (n : ℕ). Waits r n (t ∷ past) w) same
        (taken_keeps r meters t past os at now from bytes g g.message w a n sent none way refl h after quiet)

-- ---- any turn

turn_keeps : (r : Relay) (meters : List (List ℕ)) (t : Turn) (past : List Turn) (os : List (Option Waiting)) (i : Input)
    (bytes : List ℕ)
    → answer_of t ≡ answer_as t.heard.now i bytes → handed_at t ≡ handed_on r meters (answer_of t)
    → copies_at t ≡ copies_of i os t.heard.now → AllWait r past os
    → AllWait r (t ∷ past) (waits_of r meters t.heard.now i bytes os)
turn_keeps r meters t past os (input.Datagram at from) bytes a sent copies h = λ route w k.
    datagram_keeps r meters t past os at t.heard.now from bytes
    (goes_on r meters (came t.heard.now at from bytes)) route w a refl (sent ∙ ap (handed_on r meters) a) copies refl h
    k
turn_keeps r meters t past os (input.Refused at) bytes a sent copies h = λ route w k.
    waits_on r route t past w w (h route w k) (ap (order_at r route) a) refl refl
    (omega (arith, ap (count_by (is_by route)) copies))
turn_keeps r meters t past os input.Wake bytes a sent copies h = λ route w k.
    wake_keeps r t past os route (wait_at os route) w (ap (order_at r route) a) copies h refl
    (sym (woken_at os route t.heard.now) ∙ k)

times_at_most : (x : Said) → times x ≤ 3
times_at_most Once = omega arith
times_at_most Twice = omega arith
times_at_most Thrice = omega arith

-- a copy that is sent is one of what waits
one_copy : (r : Relay) (past : List Turn) (os : List (Option Waiting)) (now nth : ℕ) (w : Waiting)
    → Waits r nth past w → is_said w now ≡ true → IsCopy r past now (copy_of nth w)
one_copy r past os now nth w h said =
    let time = said_time w now said in
    record {
      since = h.since;
      first = h.first;
      earlier = h.earlier;
      split = h.split;
      handed = h.handed;
      is_go = h.is_go;
      no_order = h.no_order;
      few = omega (arith, h.said, times_at_most w.said);
      after = omega (arith, h.came, time.after);
      soon = omega (arith, h.came, time.soon);
    }

turn_copies : (r : Relay) (past : List Turn) (t : Turn) (os : List (Option Waiting)) (i : Input) (s : Sending)
    → copies_at t ≡ copies_of i os t.heard.now → AllWait r past os → Contains (copies_at t) s
    → IsCopy r past t.heard.now s
turn_copies r past t os (input.Datagram at from) s e h k = none_in s (subst (λ (ss : List Sending). Contains ss s) e k)
turn_copies r past t os (input.Refused at) s e h k = none_in s (subst (λ (ss : List Sending). Contains ss s) e k)
turn_copies r past t os input.Wake s e h k =
    let of = of_from 0 os t.heard.now s
    (subst (λ (ss : List Sending). Contains ss s) (e ∙ from_is 0 os t.heard.now) k) in
    let same : copy_of of.nth of.w ≡ s = ap (λ (n : ℕ). copy_of n of.w) (omega arith) ∙ of.same in
    subst (IsCopy r past t.heard.now) same
    (one_copy r past os t.heard.now of.nth of.w (h of.nth of.w of.waits) of.said)

pub turns_copy : (m : RelayMachine) (past ts : List Turn) (m_then : RelayMachine) → AllWait m.relay past m.waiting.items
    → AreTurns relay_machine m ts m_then → OnlyCopies m.relay past ts
turns_copy m past [] m_then h k = tt
turns_copy m past (t ∷ ts) m_then h k =
    let one = turn_hands m t k.0 k.1 in
    let os = m.waiting.items in
    let kept : AllWait m.relay (t ∷ past) (waits_of m.relay m.meters.items t.heard.now t.heard.input t.heard.bytes os) =
    turn_keeps m.relay m.meters.items t past os t.heard.input t.heard.bytes refl one.handed one.copied h in
    let next : AllWait k.0.relay (t ∷ past) k.0.waiting.items =
    subst (λ (r : Relay). AllWait r (t ∷ past) k.0.waiting.items) (sym one.relay)
    (subst (AllWait m.relay (t ∷ past)) (sym one.waits) kept) in (
      λ s there. turn_copies m.relay past t os t.heard.input s one.copied h there,
      subst (λ (r : Relay). OnlyCopies r (t ∷ past) ts) one.relay (turns_copy k.0 (t ∷ past) ts m_then next k.2),
    )

none_waits : (n route : ℕ) → wait_at (replicate n None) route ≡ None
none_waits zero route = refl
none_waits (suc n) zero = refl
none_waits (suc n) (suc route) = none_waits n route

-- at first nothing waits
pub new_waits : (m : RelayMachine) → IsNew (state_of m) → AllWait m.relay [] m.waiting.items
new_waits m new route w e =
    let start : m.waiting.items ≡ replicate (length m.relay.routes.now) None = ap (λ (s : State). s.waiting) new in
    absurd (none-some w (sym (ap (λ (os : List (Option Waiting)). wait_at os route) start
    ∙ none_waits (length m.relay.routes.now) route) ∙ e))
