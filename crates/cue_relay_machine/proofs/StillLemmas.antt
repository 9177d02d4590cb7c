-- A GO that was handed on waits until its copies are said, while no other order comes and the time is not over.
use Rattle.std.proofs.Common.{◌≡◌, ℕ, ◌+◌, ◌-◌, ◌<◌, ◌≤◌, ◌==◌, Bool, true, false, not, cond, List}
use Rattle.std.proofs.Common.{[], ◌∷◌, ◌++◌, length, Option, Some, None, refl, sym, ap, ◌∙◌, subst, arith, rules}
use Rattle.std.specs.Prelude.{Contains, count_by, nat_le, nat_lt}
use Rattle.std.specs.List.{list_all}
use Rattle.std.specs.Option.{option_map}
use Rattle.std.proofs.lemmas.Bool.{and_from, and_parts, eq-eqb, le-leb, le-ltb, leb-true, not_from_false, or_from}
use Rattle.std.proofs.lemmas.List.{length-map, length-replicate, length-set}
use Rattle.std.proofs.lemmas.List.Folds.{list_all-append}
use Rattle.std.proofs.lemmas.Option.{none-some, same_Some, slice_get_within}
use Rattle.cue_machine.specs.declared.address.Address as machine
use Rattle.cue_machine.specs.declared.ears.Input.{Input}
use Rattle.cue_machine.specs.declared.ears.Input.TheVariants as input
use Rattle.cue_machine.specs.Living.{AreTurns, Turn}
use Rattle.cue_device.specs.declared.asked.Command.{Command}
use Rattle.cue_device.specs.declared.asked.Command.TheVariants as command
use Rattle.cue_device.specs.Datagrams.{command_text}
use Rattle.cue_relay.specs.declared.going.Going.{Going}
use Rattle.cue_relay.specs.declared.messages.Message.{Message}
use Rattle.cue_relay.specs.declared.messages.Message.TheVariants as says
use Rattle.cue_relay.specs.declared.relaying.Relay.{Relay}
use Rattle.cue_relay.specs.declared.route.Address as relay
use Rattle.cue_relay.specs.declared.route.Opening.{Opening}
use Rattle.cue_relay.specs.declared.route.Side.{Side}
use Rattle.cue_relay.specs.declared.route.Side.TheVariants.{Controller}
use Rattle.cue_relay.specs.declared.status.Ordered.{Ordered}
use Rattle.cue_relay.specs.declared.status.Ordered.TheVariants.{Standby, Go, Cancel}
use Rattle.cue_relay.specs.Messages.{is_reply, message_in, order_in}
use Rattle.cue_relay.specs.Messages as message
use Rattle.cue_relay.specs.Rates.{admits}
use Rattle.cue_relay.specs.Relayed.{Sending, goes_on, handed_on, sent_by, way_and_message}
use Rattle.cue_relay.proofs.MessageLemmas.{order_in-for}
use Rattle.cue_relay.proofs.WayLemmas.{goes}
use Rattle.cue_relay_machine.specs.declared.copies.Said.{Said}
use Rattle.cue_relay_machine.specs.declared.copies.Said.TheVariants.{Once, Twice, Thrice}
use Rattle.cue_relay_machine.specs.declared.copies.TheConstants.{GO_BYTES, LAST_COPY}
use Rattle.cue_relay_machine.specs.declared.copies.Waiting.{Waiting}
use Rattle.cue_relay_machine.specs.declared.machine.RelayMachine.{RelayMachine}
use Rattle.cue_relay_machine.specs.Copied.{copied, is_by, is_quiet, order_at, order_going, order_of}
use Rattle.cue_relay_machine.specs.Copies.{after_going, after_message, after_wake, is_late, is_said, once_more, pause}
use Rattle.cue_relay_machine.specs.Copies.{taken_at, wait_at}
use Rattle.cue_relay_machine.specs.Laws.{SaysAgain, copy_pause, is_between}
use Rattle.cue_relay_machine.specs.Lives.{IsNew, relay_machine}
use Rattle.cue_relay_machine.specs.Places.{machine_address, opening_at, relay_address}
use Rattle.cue_relay_machine.specs.Steps.{State, came, state_of, waiting_after}
use Rattle.cue_relay_machine.specs.Turns.{answer_as, answer_of, copies_at, handed_at}
use Rattle.cue_relay_machine.proofs.AgainLemmas.{datagram_stays, parted, quiet_none}
use Rattle.cue_relay_machine.proofs.CopyLemmas.{copies_from, copy_of, from_at, from_is, in_one, none_in, said_count}
use Rattle.cue_relay_machine.proofs.LifeLemmas.{admitted, copies_of, turn_hands, waits_of}
use Rattle.cue_relay_machine.proofs.PastLemmas.{came_order, copy_same, go_out, times, woken_count, woken_is}
use Rattle.cue_relay_machine.proofs.WaitLemmas.{taken_same, woken_at}

-- ---- a GO

-- a GO is no longer than its bytes
go_short : (d q : ℕ) → length (command_text d (command.Go q)) ≤ GO_BYTES
unfolding command_text
go_short d q = search rules

go_of : (d : ℕ) (bytes : List ℕ) (c : Command) (seq : ℕ) → order_in d bytes ≡ Some c
    → message.order_of c ≡ says.Order Go seq → length bytes ≤ GO_BYTES
go_of d bytes (command.Standby q t) seq e f = absurd cc
go_of d bytes (command.Go q) seq e f =
    subst (λ (x : List ℕ). length x ≤ GO_BYTES) (sym (order_in-for d bytes (command.Go q) e).text) (go_short d q)
go_of d bytes (command.Cancel q) seq e f = absurd cc

go_bytes : (d : ℕ) (bytes : List ℕ) (seq : ℕ) → message_in Controller d bytes ≡ Some (says.Order Go seq)
    → length bytes ≤ GO_BYTES
go_bytes d bytes seq e = by (is_reply bytes) e
  where
    found : (o : Option Command) → order_in d bytes ≡ o → option_map message.order_of o ≡ Some (says.Order Go seq)
        → length bytes ≤ GO_BYTES
    found None f k = absurd (none-some (says.Order Go seq) k)
    found (Some c) f k = go_of d bytes c seq f (same_Some (message.order_of c) (says.Order Go seq) k)

    by : (b : Bool)
        → cond b (Some says.Reply) (option_map message.order_of (order_in d bytes)) ≡ Some (says.Order Go seq)
        → length bytes ≤ GO_BYTES
    by true k = let same : says.Reply ≡ says.Order Go seq = same_Some says.Reply (says.Order Go seq) k in absurd cc
    by false k = found (order_in d bytes) refl k

-- ---- as many places as routes

abbrev HasPlaces : RelayMachine → Type 0
HasPlaces m = length m.waiting.items ≡ length m.relay.routes.now

same_length : (r : Relay) (meters : List (List ℕ)) (now : ℕ) (i : Input) (bytes : List ℕ) (os : List (Option Waiting))
    → length (waits_of r meters now i bytes os) ≡ length os
same_length r meters now (input.Datagram at from) bytes os =
    by (goes_on r meters (came now at from bytes))
  where
    by : (o : Option Going) → length (waiting_after os at now bytes o) ≡ length os
    by None = refl
    by (Some g) = length-set os (opening_at at).route (after_going (wait_at os (opening_at at).route) now g bytes)
same_length r meters now (input.Refused at) bytes os = refl
same_length r meters now input.Wake bytes os = length-map os (after_wake now)

turns_places : (m : RelayMachine) (ts : List Turn) (m_then : RelayMachine) → AreTurns relay_machine m ts m_then
    → HasPlaces m → HasPlaces m_then
turns_places m [] m_then h k = subst HasPlaces (sym h) k
turns_places m (t ∷ ts) m_then h k =
    let one = turn_hands m t h.0 h.1 in
    turns_places h.0 ts m_then h.2
    (ap length one.waits
    ∙ (same_length m.relay m.meters.items t.heard.now t.heard.input t.heard.bytes m.waiting.items
    ∙ (k ∙ ap (λ (r : Relay). length r.routes.now) (sym one.relay))))

new_places : (m : RelayMachine) → IsNew (state_of m) → HasPlaces m
new_places m new =
    ap (λ (s : State). length s.waiting) new ∙ length-replicate (length m.relay.routes.now) None

-- ---- it waits

-- This datagram waits at its route: it came then, and was said so often beside the first time.
pub record Still (os : List (Option Waiting)) (s : Sending) (at said : ℕ) : Type 0 where
  pub w : Waiting
  pub waits : wait_at os s.way.out.route ≡ Some w
  pub came : w.came ≡ at
  pub same : copy_of s.way.out.route w ≡ s
  pub times : times w.said ≡ said + 1

go_seq : (m : Message) → order_of m ≡ Some Go → (seq : ℕ) × (m ≡ says.Order Go seq)
go_seq (says.Order order seq) e = (seq, ap (λ (x : Ordered). says.Order x seq) (same_Some order Go e))
go_seq says.Reply e = absurd (none-some Go e)
go_seq (says.Answer a) e = absurd (none-some Go e)

inside : (b : Bool) (o : Option Ordered) (x : Ordered) → cond b o None ≡ Some x → (b ≡ true) × (o ≡ Some x)
inside true o x e = (refl, e)
inside false o x e = absurd (none-some x e)

-- a GO that goes on waits
going_begins : (r : Relay) (os : List (Option Waiting)) (at now : ℕ) (from : machine.Address) (bytes : List ℕ)
    (g : Going) (seq : ℕ)
    → length os ≡ length r.routes.now
    → way_and_message r (opening_at at) (relay_address from) bytes ≡ Some g → g.message ≡ says.Order Go seq
    → Still (waiting_after os at now bytes (Some g)) (record { way = g.way; bytes = bytes }) now 0
going_begins r os at now from bytes g seq places way m =
    here
  where
    p : ℕ
    p = (opening_at at).route

    made : Waiting
    made = record { came = now; said = Once; to = machine_address g.way.to; bytes = bytes }

    here : Still (taken_at os p now g bytes) (record { way = g.way; bytes = bytes }) now 0
    here =
        let w = goes r (opening_at at) (relay_address from) bytes g way in
        let out = go_out r at from bytes g seq way m in
        let says : message_in Controller w.route.device bytes ≡ Some (says.Order Go seq) =
        subst (λ (x : Side). message_in x w.route.device bytes ≡ Some g.message) out.0 w.says
        ∙ ap (λ (x : Message). Some x) m in
        let short : nat_le (length bytes) GO_BYTES ≡ true =
        le-leb (length bytes) GO_BYTES (go_bytes w.route.device bytes seq says) in
        let within : p < length os =
        subst (λ (n : ℕ). p < n) (sym places) (slice_get_within r.routes.now p w.route w.found) in
        let there : wait_at (taken_at os p now g bytes) p ≡ Some made =
        taken_same os p p now g bytes (eq-eqb p p refl) within
        ∙ (ap (λ (x : Message). after_message x (wait_at os p) now (machine_address g.way.to) bytes) m
        ∙ ap (λ (b : Bool). cond b (Some made) None) short) in
        let same : copy_of p made ≡ record { way = g.way; bytes = bytes } =
        ap (λ (x : Opening). record { way = record { out = x; to = g.way.to }; bytes = bytes }) (sym out.1) in
        record {
          w = made;
          waits = subst (λ (n : ℕ). wait_at (taken_at os p now g bytes) n ≡ Some made) (sym w.out) there;
          came = refl;
          same = subst (λ (n : ℕ). copy_of n made ≡ record { way = g.way; bytes = bytes }) (sym w.out) same;
          times = refl;
        }

-- and a turn in which one was handed on had one
turn_begins : (r : Relay) (meters : List (List ℕ)) (t : Turn) (os : List (Option Waiting)) (i : Input) (bytes : List ℕ)
    (s : Sending)
    → answer_of t ≡ answer_as t.heard.now i bytes → handed_at t ≡ handed_on r meters (answer_of t)
    → length os ≡ length r.routes.now → Contains (handed_at t) s
    → order_at r s.way.out.route (answer_of t) ≡ Some Go
    → Still (waits_of r meters t.heard.now i bytes os) s t.heard.now 0
turn_begins r meters t os (input.Datagram at from) bytes s a sent places there go =
    by (goes_on r meters (came t.heard.now at from bytes)) refl
    (subst (λ (ss : List Sending). Contains ss s) (sent ∙ ap (handed_on r meters) a) there)
  where
    by : (o : Option Going) → goes_on r meters (came t.heard.now at from bytes) ≡ o → Contains (sent_by bytes o) s
        → Still (waiting_after os at t.heard.now bytes o) s t.heard.now 0
    by None e k = none_in s k
    by (Some g) e k =
        let way : way_and_message r (opening_at at) (relay_address from) bytes ≡ Some g =
        admitted (admits meters (opening_at at) t.heard.now)
        (way_and_message r (opening_at at) (relay_address from) bytes) g e in
        let parts = inside ((opening_at at).route == s.way.out.route)
        (order_going (way_and_message r (opening_at at) (relay_address from) bytes)) Go
        (sym (came_order r s.way.out.route t t.heard.now at from bytes a) ∙ go) in
        let seq = go_seq g.message (sym (ap order_going way) ∙ parts.1) in
        subst (λ (x : Sending). Still (waiting_after os at t.heard.now bytes (Some g)) x t.heard.now 0)
        (in_one (record { way = g.way; bytes = bytes }) s k)
        (going_begins r os at t.heard.now from bytes g seq.0 places way seq.1)
turn_begins r meters t os (input.Refused at) bytes s a sent places there go =
    absurd (none-some Go (sym (ap (order_at r s.way.out.route) a) ∙ go))
turn_begins r meters t os input.Wake bytes s a sent places there go =
    absurd (none-some Go (sym (ap (order_at r s.way.out.route) a) ∙ go))

-- ---- it waits still

not_late : (w : Waiting) (now first : ℕ) → w.came ≡ first → first ≤ now → now ≤ first + LAST_COPY
    → is_late w now ≡ false
not_late w now first e after soon =
    or_from (nat_lt now w.came) (nat_lt LAST_COPY (now - w.came)) (le-ltb now w.came (omega (arith, e, after)))
    (le-ltb LAST_COPY (now - w.came) (omega (arith, e, soon, after)))

-- a wake that is not late says a copy, or leaves it
woken_still : (w : Waiting) (now : ℕ) → is_late w now ≡ false → said_count (Some w) now + times w.said ≤ 3
    → (w_then : Waiting) × (after_wake now (Some w) ≡ Some w_then)
woken_still w now late few = by (is_said w now) refl
  where
    once : (x : Said) → w.said ≡ x → is_said w now ≡ true → (w_then : Waiting) × (once_more w ≡ Some w_then)
    once Once e k = (record w { said = Twice }, rw e refl)
    once Twice e k = (record w { said = Thrice }, rw e refl)
    once Thrice e k =
        let one : said_count (Some w) now ≡ 1 = ap (λ (b : Bool). cond b 1 0) k in
        absurd (omega (arith, few, one, ap times e))

    by : (b : Bool) → is_said w now ≡ b
        → (w_then : Waiting) × (cond (is_late w now) None (cond (is_said w now) (once_more w) (Some w)) ≡ Some w_then)
    by true k =
        let more = once w.said refl k in (
          more.0,
          ap (λ (b : Bool). cond b None (cond (is_said w now) (once_more w) (Some w))) late
              ∙ (ap (λ (b : Bool). cond b (once_more w) (Some w)) k ∙ more.1),
        )
    by false k = (
      w,
      ap (λ (b : Bool). cond b None (cond (is_said w now) (once_more w) (Some w))) late
          ∙ ap (λ (b : Bool). cond b (once_more w) (Some w)) k,
    )

turn_still : (r : Relay) (meters : List (List ℕ)) (t : Turn) (os : List (Option Waiting)) (i : Input) (bytes : List ℕ)
    (s : Sending) (first said : ℕ)
    → answer_of t ≡ answer_as t.heard.now i bytes → copies_at t ≡ copies_of i os t.heard.now
    → order_at r s.way.out.route (answer_of t) ≡ None → first ≤ t.heard.now → t.heard.now ≤ first + LAST_COPY
    → count_by (is_by s.way.out.route) (copies_at t) + said < 3 → Still os s first said
    → Still (waits_of r meters t.heard.now i bytes os) s first (count_by (is_by s.way.out.route) (copies_at t) + said)
turn_still r meters t os (input.Datagram at from) bytes s first said a copies quiet after soon few h = record {
  w = h.w;
  waits = datagram_stays r meters t os at t.heard.now from bytes
      (goes_on r meters (came t.heard.now at from bytes)) s.way.out.route a refl quiet
      ∙ h.waits;
  came = h.came;
  same = h.same;
  times = omega (arith, h.times, ap (count_by (is_by s.way.out.route)) copies);
}
turn_still r meters t os (input.Refused at) bytes s first said a copies quiet after soon few h = record {
  w = h.w;
  waits = h.waits;
  came = h.came;
  same = h.same;
  times = omega (arith, h.times, ap (count_by (is_by s.way.out.route)) copies);
}
turn_still r meters t os input.Wake bytes s first said a copies quiet after soon few h =
    let route = s.way.out.route in
    let now = t.heard.now in
    let count : count_by (is_by route) (copies_at t) ≡ said_count (Some h.w) now =
    woken_count os now route (copies_at t) copies ∙ ap (λ (x : Option Waiting). said_count x now) h.waits in
    let more = woken_still h.w now (not_late h.w now first h.came after soon) (omega (arith, few, count, h.times)) in
    let is = woken_is h.w more.0 now more.1 in
    record {
      w = more.0;
      waits = woken_at os route now ∙ (ap (after_wake now) h.waits ∙ more.1);
      came = is.came ∙ h.came;
      same = copy_same route h.w more.0 now is ∙ h.same;
      times = omega (arith, is.more, count, h.times);
    }

turns_still : (m : RelayMachine) (ts : List Turn) (m_then : RelayMachine) (s : Sending) (first said : ℕ)
    → AreTurns relay_machine m ts m_then → list_all (is_quiet m.relay s.way.out.route) ts ≡ true
    → list_all (is_between first (first + LAST_COPY)) ts ≡ true → copied s.way.out.route ts + said < 3
    → Still m.waiting.items s first said
    → Still m_then.waiting.items s first (copied s.way.out.route ts + said)
turns_still m [] m_then s first said h quiet between few k =
    subst (λ (n : ℕ). Still m_then.waiting.items s first n) (omega arith)
    (subst (λ (x : RelayMachine). Still x.waiting.items s first said) (sym h) k)
turns_still m (t ∷ ts) m_then s first said h quiet between few k =
    let route = s.way.out.route in
    let one = turn_hands m t h.0 h.1 in
    let calm = and_parts (is_quiet m.relay route t) (list_all (is_quiet m.relay route) ts) quiet in
    let times = and_parts (is_between first (first + LAST_COPY) t)
    (list_all (is_between first (first + LAST_COPY)) ts) between in
    let bounds = and_parts (nat_le first t.heard.now) (nat_le t.heard.now (first + LAST_COPY)) times.0 in
    let count : ℕ = count_by (is_by route) (copies_at t) in
    let next : Still h.0.waiting.items s first (count + said) =
    subst (λ (os : List (Option Waiting)). Still os s first (count + said)) (sym one.waits)
    (turn_still m.relay m.meters.items t m.waiting.items t.heard.input t.heard.bytes s first said refl one.copied
    (quiet_none (order_at m.relay route (answer_of t)) calm.0) (leb-true first t.heard.now bounds.0)
    (leb-true t.heard.now (first + LAST_COPY) bounds.1) (omega (arith, few)) k) in
    let more = turns_still h.0 ts m_then s first (count + said) h.2
    (subst (λ (r : Relay). list_all (is_quiet r route) ts ≡ true) (sym one.relay) calm.1) times.1
    (omega (arith, few)) next in
    subst (λ (n : ℕ). Still m_then.waiting.items s first n) (omega arith) more

-- ---- it is said again

pause_of : (x : Said) (said : ℕ) → times x ≡ said + 1 → pause x ≡ copy_pause said
pause_of Once said e = let none : said ≡ 0 = omega (arith, e) in rw none refl
pause_of Twice said e = let one : said ≡ 1 = omega (arith, e) in rw one refl
pause_of Thrice said e = let two : said ≡ 2 = omega (arith, e) in rw two refl

wake_says : (t : Turn) (os : List (Option Waiting)) (i : Input) (s : Sending) (first said : ℕ)
    → i ≡ input.Wake → copies_at t ≡ copies_of i os t.heard.now → Still os s first said → first ≤ t.heard.now
    → t.heard.now ≤ first + LAST_COPY → first + copy_pause said ≤ t.heard.now → Contains (copies_at t) s
wake_says t os i s first said wake copies h after soon due =
    let route = s.way.out.route in
    let now = t.heard.now in
    let paused : pause h.w.said ≡ copy_pause said = pause_of h.w.said said h.times in
    let due_now : nat_le (pause h.w.said) (now - h.w.came) ≡ true =
    le-leb (pause h.w.said) (now - h.w.came) (omega (arith, due, paused, h.came)) in
    let said_now : is_said h.w now ≡ true =
    and_from (not (is_late h.w now)) (nat_le (pause h.w.said) (now - h.w.came))
    (not_from_false (is_late h.w now) (not_late h.w now first h.came after soon)) due_now in
    let sent : copies_at t ≡ copies_from 0 os now =
    copies ∙ (ap (λ (x : Input). copies_of x os now) wake ∙ from_is 0 os now) in
    subst (Contains (copies_at t)) h.same
    (subst (λ (ss : List Sending). Contains ss (copy_of route h.w)) (sym sent)
    (from_at route 0 route os now h.w (omega arith) h.waits said_now))

pub says-again : SaysAgain
says-again m before first since t m_then s h there go quiet between few wake due =
    let route = s.way.out.route in
    let at = parted m before (first ∷ (since ++ t ∷ [])) m_then h.turns in
    let one = turn_hands at.mid first at.rest.0 at.rest.1 in
    let os = at.mid.waiting.items in
    let places : HasPlaces at.mid = turns_places m before at.mid at.first (new_places m h.new) in
    let begun : Still at.rest.0.waiting.items s first.heard.now 0 =
    subst (λ (x : List (Option Waiting)). Still x s first.heard.now 0) (sym one.waits)
    (turn_begins at.mid.relay at.mid.meters.items first os first.heard.input first.heard.bytes s refl one.handed places
    there (subst (λ (r : Relay). order_at r route (answer_of first) ≡ Some Go) (sym at.relay) go)) in
    let last = parted at.rest.0 since (t ∷ []) m_then at.rest.2 in
    let times = and_parts (list_all (is_between first.heard.now (first.heard.now + LAST_COPY)) since)
    (list_all (is_between first.heard.now (first.heard.now + LAST_COPY)) (t ∷ []))
    (sym (list_all-append (is_between first.heard.now (first.heard.now + LAST_COPY)) since (t ∷ [])) ∙ between) in
    let still : Still last.mid.waiting.items s first.heard.now (copied route since + 0) =
    turns_still at.rest.0 since last.mid s first.heard.now 0 last.first
    (subst (λ (r : Relay). list_all (is_quiet r route) since ≡ true) (sym (one.relay ∙ at.relay)) quiet) times.0
    (omega (arith, few)) begun in
    let said : Still last.mid.waiting.items s first.heard.now (copied route since) =
    subst (λ (n : ℕ). Still last.mid.waiting.items s first.heard.now n) (omega arith) still in
    let final = turn_hands last.mid t last.rest.0 last.rest.1 in
    let bounds = and_parts (nat_le first.heard.now t.heard.now) (nat_le t.heard.now (first.heard.now + LAST_COPY))
    (and_parts (is_between first.heard.now (first.heard.now + LAST_COPY) t) true times.1).0 in
    wake_says t last.mid.waiting.items t.heard.input s first.heard.now (copied route since) wake final.copied said
    (leb-true first.heard.now t.heard.now bounds.0) (leb-true t.heard.now (first.heard.now + LAST_COPY) bounds.1) due
