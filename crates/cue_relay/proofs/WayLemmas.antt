-- What a way says of the datagram that takes it.
use Rattle.std.proofs.Common.{◌≡◌, ℕ, ◌≤◌, ◌<◌, Bool, true, false, ◌==◌, nat_le, ◌⊎◌, inl, inr, List, []}
use Rattle.std.proofs.Common.{◌∷◌, length, take, Option, Some, None, refl, sym, ap, ◌∙◌, subst, arith, cond}
use Rattle.std.specs.Prelude.{slice_get, Contains, is_some, option_and_then}
use Rattle.std.proofs.lemmas.Bool.{and_parts, eqb-true, leb-true, lt-leb}
use Rattle.std.proofs.lemmas.Bool.Decides.{leb_tells}
use Rattle.std.proofs.lemmas.List.{take_all, length-take}
use Rattle.std.proofs.lemmas.List.Elements.{Contains-append_cases, Contains-append_right, Contains-push_cases}
use Rattle.std.proofs.lemmas.Option.{option_and_then_some, none-some, same_Some}
use Rattle.cue_osc.specs.declared.limits.TheConstants.{MAX_LEN}
use Rattle.cue_relay.specs.declared.going.Going.{Going}
use Rattle.cue_relay.specs.declared.messages.Message.{Message}
use Rattle.cue_relay.specs.declared.relaying.Relay.{Relay}
use Rattle.cue_relay.specs.declared.route.Address.{Address}
use Rattle.cue_relay.specs.declared.route.Opening.{Opening}
use Rattle.cue_relay.specs.declared.route.Route.{Route}
use Rattle.cue_relay.specs.declared.route.Side.{Side}
use Rattle.cue_relay.specs.declared.route.Side.TheVariants.{Controller, Stage}
use Rattle.cue_relay.specs.declared.route.Way.{Way}
use Rattle.cue_relay.specs.Rates.{admits, meters_after}
use Rattle.cue_relay.specs.Relaying.{across, is_same, message_at, way_by, way_of, who_is_at}
use Rattle.cue_relay.specs.Messages.{IsAnswerOf, IsOrderTo, IsReply, message_in}
use Rattle.cue_relay.specs.Relayed.{Answer, Sending, comes, ticks, all_handed_on, going_of, way_and_message, goes_on}
use Rattle.cue_relay.specs.Relayed.{times_then, sent_by, handed_on, handed_from, no_times}
use Rattle.cue_relay.specs.Laws.{CameBy}
use Rattle.cue_relay.proofs.MessageLemmas.{stage_says, controller_says}

too_long : (c : Address) (routes : List Route) (at : Opening) (from : Address) (len : ℕ) → MAX_LEN < len
    → way_of c routes at from len ≡ None
too_long c routes at from len h = rw (lt-leb len MAX_LEN h) refl

no_way : (r : Relay) (at : Opening) (from : Address) (bytes : List ℕ) → MAX_LEN < length bytes
    → way_and_message r at from bytes ≡ None
no_way r at from bytes h =
    ap (λ (w : Option Way). going_of w (message_at r.routes.now at bytes))
    (too_long r.controller r.routes.now at from (length bytes) h)

cut_way : (size : ℕ) → MAX_LEN < size → (r : Relay) (at : Opening) (from : Address) (bytes : List ℕ)
    → (length bytes ≤ size) ⊎ (size < length bytes)
    → way_and_message r at from (take size bytes) ≡ way_and_message r at from bytes
cut_way size h r at from bytes (inl fits) = ap (way_and_message r at from) (take_all size bytes fits)
cut_way size h r at from bytes (inr long) =
    let cut_long : MAX_LEN < length (take size bytes) = omega (arith, h, long, length-take size bytes) in
    let whole_long : MAX_LEN < length bytes = omega (arith, h, long) in
    no_way r at from (take size bytes) cut_long ∙ sym (no_way r at from bytes whole_long)

le_or : (a b : ℕ) → (a ≤ b) ⊎ (b < a)
le_or a b = elim (leb_tells a b) [ inl k ↦ inl k.1 | inr k ↦ inr k.1 ]

-- of a datagram that was cut goes on what would of it whole, and what is noted is the same
pub cut-same : (size : ℕ) → MAX_LEN < size → (r : Relay) (meters : List (List ℕ)) (now : ℕ) (at : Opening)
    (from : Address) (bytes : List ℕ)
    → (goes_on r meters (comes now at from (take size bytes)) ≡ goes_on r meters (comes now at from bytes))
    × (times_then r meters (comes now at from (take size bytes)) ≡ times_then r meters (comes now at from bytes))
cut-same size h r meters now at from bytes =
    let same = cut_way size h r at from bytes (le_or (length bytes) size) in (
      ap (λ (o : Option Going). cond (admits meters at now) o None) same,
      ap (λ (o : Option Going). cond (is_some o) (meters_after meters at now) meters) same,
    )

pub same_address : (a b : Address) → is_same a b ≡ true → a ≡ b
same_address a b e =
    let k = and_parts (a.host == b.host) (a.port == b.port) e in
    rw (eqb-true a.host b.host k.0, eqb-true a.port b.port k.1) refl

-- a datagram that goes on came by a route, from who is at that side, for who is across
pub record Goes (r : Relay) (at : Opening) (from : Address) (bytes : List ℕ) (g : Going) : Type 0 where
  pub route : Route
  pub found : slice_get r.routes.now at.route ≡ Some route
  pub sender : from ≡ who_is_at r.controller route at.side
  pub out : g.way.out.route ≡ at.route
  pub side : g.way.out.side ≡ across at.side
  pub to : g.way.to ≡ who_is_at r.controller route (across at.side)
  pub fits : length bytes ≤ MAX_LEN
  pub says : message_in at.side route.device bytes ≡ Some g.message

pub guarded : {A : Type 0} (b : Bool) (o : Option A) (x : A) → cond b o None ≡ Some x → (b ≡ true) × (o ≡ Some x)
guarded true o x e = (refl, e)
guarded false o x e = absurd (none-some x e)

going_parts : (w : Option Way) (m : Option Message) (g : Going) → going_of w m ≡ Some g
    → (w ≡ Some g.way) × (m ≡ Some g.message)
going_parts None m g e = absurd (none-some g e)
going_parts (Some w) None g e = absurd (none-some g e)
going_parts (Some w) (Some m) g e =
    let same = same_Some (record { way = w; message = m }) g e in
    (ap (λ (x : Going). Some x.way) same, ap (λ (x : Going). Some x.message) same)

-- what is said at a route that is there
said_at : (routes : List Route) (at : Opening) (bytes : List ℕ) (route : Route) (m : Message)
    → slice_get routes at.route ≡ Some route → message_at routes at bytes ≡ Some m
    → message_in at.side route.device bytes ≡ Some m
said_at routes at bytes route m found e =
    sym (ap (option_and_then (λ x. message_in at.side x.device bytes)) found) ∙ e

pub goes : (r : Relay) (at : Opening) (from : Address) (bytes : List ℕ) (g : Going)
    → way_and_message r at from bytes ≡ Some g → Goes r at from bytes g
goes r at from bytes g e =
    let c : Address = r.controller in
    let parts = going_parts (way_of c r.routes.now at from (length bytes)) (message_at r.routes.now at bytes) g e in
    let short = guarded (nat_le (length bytes) MAX_LEN)
    (option_and_then (λ route. way_by c route at from) (slice_get r.routes.now at.route)) g.way parts.0 in
    option_and_then_some (λ route. way_by c route at from) (slice_get r.routes.now at.route) g.way short.1
    (λ route found by.
    let known = guarded (is_same from (who_is_at c route at.side))
    (Some (record {
      out = record { route = at.route; side = across at.side };
      to = who_is_at c route (across at.side);
    })) g.way by in
    let same = same_Some (record {
      out = record { route = at.route; side = across at.side };
      to = who_is_at c route (across at.side);
    }) g.way known.1 in
    record {
      route = route;
      found = found;
      sender = same_address from (who_is_at c route at.side) known.0;
      out = ap (λ (w : Way). w.out.route) (sym same);
      side = ap (λ (w : Way). w.out.side) (sym same);
      to = ap (λ (w : Way). w.to) (sym same);
      fits = leb-true (length bytes) MAX_LEN short.0;
      says = said_at r.routes.now at bytes route g.message found parts.1;
    })

-- what is handed on of all that comes is of one of them
record Of (r : Relay) (given : List Answer) (s : Sending) : Type 0 where
  now : ℕ
  at : Opening
  from : Address
  came : Contains given (comes now at from s.bytes)
  going : Going
  way : going.way ≡ s.way
  goes_so : way_and_message r at from s.bytes ≡ Some going

in_one : {X : Type 0} (x y : X) → Contains (x ∷ []) y → x ≡ y
in_one x y h = elim (Contains-push_cases [] x y h) [ inl k ↦ absurd (omega (arith, k.1)) | inr e ↦ e ]

none_in : {X : Type 0} {P : Type 0} (y : X) → Contains [] y → P
none_in y h = absurd (omega (arith, h.1))

-- what was sent for one datagram
record SentBy (bytes : List ℕ) (o : Option Going) (s : Sending) : Type 0 where
  going : Going
  found : o ≡ Some going
  way : going.way ≡ s.way
  same : bytes ≡ s.bytes

sent_of : (bytes : List ℕ) (o : Option Going) (s : Sending) → Contains (sent_by bytes o) s → SentBy bytes o s
sent_of bytes None s h = none_in s h
sent_of bytes (Some g) s h =
    let same = in_one (record { way = g.way; bytes = bytes }) s h in
    record {
      going = g;
      found = refl;
      way = ap (λ (x : Sending). x.way) same;
      same = ap (λ (x : Sending). x.bytes) same;
    }

of_one : (r : Relay) (meters : List (List ℕ)) (a : Answer) (more : List Answer) (s : Sending)
    → Contains (handed_on r meters a) s → Of r (a ∷ more) s
of_one r meters (comes now at from bytes) more s h =
    let k = sent_of bytes (goes_on r meters (comes now at from bytes)) s h in
    record {
      now = now;
      at = at;
      from = from;
      came = (0, omega arith, ap (λ (xs : List ℕ). comes now at from xs) k.same);
      going = k.going;
      way = k.way;
      goes_so = subst (λ (xs : List ℕ). way_and_message r at from xs ≡ Some k.going) k.same
          (guarded (admits meters at now) (way_and_message r at from bytes) k.going k.found).1;
    }
of_one r meters (ticks now) more s h = none_in s h

of_later : (r : Relay) (a : Answer) (more : List Answer) (s : Sending) → Of r more s → Of r (a ∷ more) s
of_later r a more s h = record {
  now = h.now;
  at = h.at;
  from = h.from;
  came = Contains-append_right (a ∷ []) more (comes h.now h.at h.from s.bytes) h.came;
  going = h.going;
  way = h.way;
  goes_so = h.goes_so;
}

of_all : (r : Relay) (meters : List (List ℕ)) (given : List Answer) (s : Sending)
    → Contains (handed_from r meters given) s → Of r given s
of_all r meters [] s h = none_in s h
of_all r meters (a ∷ more) s h =
    elim (Contains-append_cases (handed_on r meters a) (handed_from r (times_then r meters a) more) s h) [
      | inl one ↦ of_one r meters a more s one
      | inr more_of ↦ of_later r a more s (of_all r (times_then r meters a) more s more_of)
    ]

-- the side that a datagram came at, by the one that it leaves by
came_at_stage : (side : Side) → across side ≡ Controller → side ≡ Stage
came_at_stage Stage e = refl
came_at_stage Controller e = sym e

came_at_controller : (side : Side) → across side ≡ Stage → side ≡ Controller
came_at_controller Controller e = refl
came_at_controller Stage e = sym e

same_opening : (at : Opening) (route : ℕ) (side : Side) → at.route ≡ route → at.side ≡ side
    → at ≡ record { route = route; side = side }
same_opening at route side e f = rw (sym e, sym f) refl

came_by : (r : Relay) (given : List Answer) (s : Sending) (now : ℕ) (at at_then : Opening) (from from_then : Address)
    (route : Route)
    → Contains given (comes now at from s.bytes) → slice_get r.routes.now at.route ≡ Some route
    → s.way.out.route ≡ at.route → length s.bytes ≤ MAX_LEN → at ≡ at_then → from ≡ from_then
    → CameBy r given s at_then from_then route
came_by r given s now at at_then from from_then route came found out fits e f = record {
  now = now;
  came = subst (λ (x : Address). Contains given (comes now at_then x s.bytes)) f
      (subst (λ (x : Opening). Contains given (comes now x from s.bytes)) e came);
  found = subst (λ (x : Opening). slice_get r.routes.now x.route ≡ Some route) e found;
  same = sym (out ∙ ap (λ (x : Opening). x.route) e);
  fits = fits;
}

-- what is handed to the controller is an answer of the device of its route, and came from the device's own address, at
-- the stage's side of that route
pub only-answers : (r : Relay) (given : List Answer) (s : Sending) → Contains (all_handed_on r given) s
    → s.way.out.side ≡ Controller
    → (route : Route) × IsAnswerOf route.device s.bytes
    × CameBy r given s (record { route = s.way.out.route; side = Stage }) route.address route
only-answers r given s h e =
    let o = of_all r (no_times r.routes.now) given s h in
    let w = goes r o.at o.from s.bytes o.going o.goes_so in
    let out : s.way.out.route ≡ o.at.route = ap (λ (x : Way). x.out.route) (sym o.way) ∙ w.out in
    let out_side : across o.at.side ≡ Controller = sym w.side ∙ (ap (λ (x : Way). x.out.side) o.way ∙ e) in
    let side = came_at_stage o.at.side out_side in
    let at = same_opening o.at s.way.out.route Stage (sym out) side in
    let from : o.from ≡ w.route.address = w.sender ∙ ap (who_is_at r.controller w.route) side in (
      w.route,
      stage_says w.route.device s.bytes o.going.message w.fits
          (subst (λ (x : Side). message_in x w.route.device s.bytes ≡ Some o.going.message) side w.says),
      came_by r given s o.now o.at (record { route = s.way.out.route; side = Stage }) o.from w.route.address w.route
          o.came w.found out w.fits at from,
    )

-- what is handed to the stage is a reply, or an order to the device of its route; it came from the controller, and is
-- for the address of that device
pub only-orders : (r : Relay) (given : List Answer) (s : Sending) → Contains (all_handed_on r given) s
    → s.way.out.side ≡ Stage
    → (route : Route) × (s.way.to ≡ route.address) × (IsReply s.bytes ⊎ IsOrderTo route.device s.bytes)
    × CameBy r given s (record { route = s.way.out.route; side = Controller }) r.controller route
only-orders r given s h e =
    let o = of_all r (no_times r.routes.now) given s h in
    let w = goes r o.at o.from s.bytes o.going o.goes_so in
    let out : s.way.out.route ≡ o.at.route = ap (λ (x : Way). x.out.route) (sym o.way) ∙ w.out in
    let out_side : across o.at.side ≡ Stage = sym w.side ∙ (ap (λ (x : Way). x.out.side) o.way ∙ e) in
    let side = came_at_controller o.at.side out_side in
    let at = same_opening o.at s.way.out.route Controller (sym out) side in
    let from : o.from ≡ r.controller = w.sender ∙ ap (who_is_at r.controller w.route) side in (
      w.route,
      ap (λ (x : Way). x.to) (sym o.way)
          ∙ (w.to ∙ ap (λ (x : Side). who_is_at r.controller w.route (across x)) side),
      controller_says w.route.device s.bytes o.going.message
          (subst (λ (x : Side). message_in x w.route.device s.bytes ≡ Some o.going.message) side w.says),
      came_by r given s o.now o.at (record { route = s.way.out.route; side = Controller }) o.from r.controller w.route
          o.came w.found out w.fits at from,
    )
