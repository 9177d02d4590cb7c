-- What a turn makes of what waits at a route.
use Rattle.std.proofs.Common.{◌≡◌, ℕ, ◌+◌, ◌-◌, ◌<◌, ◌≤◌, ◌==◌, Bool, true, false, not}
use Rattle.std.proofs.Common.{cond, List, length, map, Option, Some, None, refl, sym, ap, ◌∙◌, subst}
use Rattle.std.proofs.Common.{arith}
use Rattle.std.specs.Prelude.{nat_le, nat_lt}
use Rattle.std.specs.Option.{option_map}
use Rattle.std.proofs.lemmas.Bool.{and_parts, eqb-false, eqb-true, leb-true, ltb-false, ltb-true, not-true, or_parts}
use Rattle.std.proofs.lemmas.List.{get_or-set_other, get_or-set_same}
use Rattle.std.proofs.lemmas.Option.{none-some, same_Some}
use Rattle.std.proofs.Math.ListN.{get_or-map}
use Rattle.cue_machine.specs.declared.address.Address as machine
use Rattle.cue_device.specs.declared.words.Answer.{Answer}
use Rattle.cue_relay.specs.declared.going.Going.{Going}
use Rattle.cue_relay.specs.declared.messages.Message.{Message}
use Rattle.cue_relay.specs.declared.messages.Message.TheVariants as says
use Rattle.cue_relay.specs.declared.relaying.Relay.{Relay}
use Rattle.cue_relay.specs.declared.route.Address as relay
use Rattle.cue_relay.specs.declared.route.Opening.{Opening}
use Rattle.cue_relay.specs.declared.route.Side.{Side}
use Rattle.cue_relay.specs.declared.route.Side.TheVariants.{Controller, Stage}
use Rattle.cue_relay.specs.Messages.{answer_in, message_in}
use Rattle.cue_relay.specs.Rates.{admits, admits_at}
use Rattle.cue_relay.specs.Relayed.{comes, goes_on, way_and_message}
use Rattle.cue_relay.proofs.WayLemmas.{goes}
use Rattle.cue_relay_machine.specs.declared.copies.Said.{Said}
use Rattle.cue_relay_machine.specs.declared.copies.Said.TheVariants.{Once, Twice, Thrice}
use Rattle.cue_relay_machine.specs.declared.copies.TheConstants.{LAST_COPY}
use Rattle.cue_relay_machine.specs.declared.copies.Waiting.{Waiting}
use Rattle.cue_relay_machine.specs.Copied.{order_going, order_of}
use Rattle.cue_relay_machine.specs.Copies.{after_going, after_message, after_wake, is_late, is_said, once_more, pause}
use Rattle.cue_relay_machine.specs.Copies.{taken_at, wait_at}
use Rattle.cue_relay_machine.proofs.CopyLemmas.{said_count, set_past}

-- ---- a datagram

-- what comes of a device is no order
pub stage_quiet : (r : Relay) (at : Opening) (from : relay.Address) (bytes : List ℕ) (g : Going)
    → way_and_message r at from bytes ≡ Some g → at.side ≡ Stage → order_of g.message ≡ None
stage_quiet r at from bytes g e side =
    let w = goes r at from bytes g e in
    let says : message_in Stage w.route.device bytes ≡ Some g.message =
    subst (λ (x : Side). message_in x w.route.device bytes ≡ Some g.message) side w.says in
    by (answer_in w.route.device bytes) says
  where
    by : (o : Option Answer) → option_map says.Answer o ≡ Some g.message → order_of g.message ≡ None
    by None k = absurd (none-some g.message k)
    by (Some a) k = ap order_of (sym (same_Some (says.Answer a) g.message k))

-- an order came at the controller's side
pub order_side : (r : Relay) (at : Opening) (from : relay.Address) (bytes : List ℕ) (g : Going)
    → way_and_message r at from bytes ≡ Some g → (order_of g.message ≡ None → ⊥) → at.side ≡ Controller
order_side r at from bytes g e ordered = by at.side refl
  where
    by : (side : Side) → at.side ≡ side → side ≡ Controller
    by Controller k = refl
    by Stage k = absurd (ordered (stage_quiet r at from bytes g e k))

-- where nothing goes on no order came
pub none_quiet : (r : Relay) (meters : List (List ℕ)) (now : ℕ) (at : Opening) (from : relay.Address) (bytes : List ℕ)
    → goes_on r meters (comes now at from bytes) ≡ None → order_going (way_and_message r at from bytes) ≡ None
none_quiet r meters now at from bytes e = by (way_and_message r at from bytes) refl
  where
    side_of : (g : Going) (side : Side) → at.side ≡ side → way_and_message r at from bytes ≡ Some g
        → order_of g.message ≡ None
    side_of g Stage k f = stage_quiet r at from bytes g f k
    side_of g Controller k f =
        let admitted : admits meters at now ≡ true = ap (λ (x : Side). admits_at x meters at.route now) k in
        let there : goes_on r meters (comes now at from bytes) ≡ Some g =
        ap (λ (b : Bool). cond b (way_and_message r at from bytes) None) admitted ∙ f in
        absurd (none-some g (sym e ∙ there))

    by : (o : Option Going) → way_and_message r at from bytes ≡ o → order_going o ≡ None
    by None f = refl
    by (Some g) f = side_of g at.side refl f

-- by another route nothing changes
pub taken_other : (os : List (Option Waiting)) (n route now : ℕ) (g : Going) (bytes : List ℕ) → (route == n) ≡ false
    → wait_at (taken_at os route now g bytes) n ≡ wait_at os n
taken_other os n route now g bytes e =
    get_or-set_other os route n (after_going (wait_at os route) now g bytes) None (λ k. eqb-false route n e (sym k))

-- by its own what went on decides, if there is such a route
pub taken_same : (os : List (Option Waiting)) (n route now : ℕ) (g : Going) (bytes : List ℕ) → (route == n) ≡ true
    → n < length os → wait_at (taken_at os route now g bytes) n ≡ after_going (wait_at os n) now g bytes
taken_same os n route now g bytes e within =
    let same : route ≡ n = eqb-true route n e in
    subst (λ (k : ℕ). wait_at (taken_at os k now g bytes) n ≡ after_going (wait_at os n) now g bytes) (sym same)
    (get_or-set_same os n (after_going (wait_at os n) now g bytes) None within)

-- what is no order changes nothing
pub message_same : (m : Message) (o : Option Waiting) (now : ℕ) (to : machine.Address) (bytes : List ℕ)
    → order_of m ≡ None → after_message m o now to bytes ≡ o
message_same (says.Order order seq) o now to bytes e = absurd (none-some order (sym e))
message_same says.Reply o now to bytes e = refl
message_same (says.Answer a) o now to bytes e = refl

-- what waits at a route waits there still, if no order went on by it
pub taken_quiet : (os : List (Option Waiting)) (n route now : ℕ) (g : Going) (bytes : List ℕ)
    → cond (route == n) (order_of g.message) None ≡ None → wait_at (taken_at os route now g bytes) n ≡ wait_at os n
taken_quiet os n route now g bytes quiet = by (route == n) refl
  where
    to : machine.Address
    to = record { host = g.way.to.host; port = g.way.to.port }

    within : (b : Bool) → nat_lt n (length os) ≡ b → (route == n) ≡ true → order_of g.message ≡ None
        → wait_at (taken_at os route now g bytes) n ≡ wait_at os n
    within true l e k =
        taken_same os n route now g bytes e (ltb-true n (length os) l)
        ∙ message_same g.message (wait_at os n) now to bytes k
    within false l e k =
        let past : length os ≤ route = rw (eqb-true route n e) (ltb-false n (length os) l) in
        ap (λ (xs : List (Option Waiting)). wait_at xs n)
        (set_past os route (after_going (wait_at os route) now g bytes) past)

    by : (b : Bool) → (route == n) ≡ b → wait_at (taken_at os route now g bytes) n ≡ wait_at os n
    by false e = taken_other os n route now g bytes e
    by true e =
        within (nat_lt n (length os)) refl e (ap (λ (b : Bool). cond b (order_of g.message) None) (sym e) ∙ quiet)

-- ---- a wake

pub woken_at : (os : List (Option Waiting)) (n now : ℕ)
    → wait_at (map (after_wake now) os) n ≡ after_wake now (wait_at os n)
woken_at os n now = get_or-map (after_wake now) os n None

-- what is said is not late, and its pause has passed
pub record IsTime (w : Waiting) (now : ℕ) : Type 0 where
  pub after : w.came ≤ now
  pub soon : now ≤ w.came + LAST_COPY
  pub due : w.came + pause w.said ≤ now

pub said_time : (w : Waiting) (now : ℕ) → is_said w now ≡ true → IsTime w now
said_time w now e =
    let parts = and_parts (not (is_late w now)) (nat_le (pause w.said) (now - w.came)) e in
    let not_late = or_parts (nat_lt now w.came) (nat_lt LAST_COPY (now - w.came))
    (not-true (is_late w now) parts.0) in
    let after : w.came ≤ now = ltb-false now w.came not_late.0 in
    let soon : now - w.came ≤ LAST_COPY = ltb-false LAST_COPY (now - w.came) not_late.1 in
    let due : pause w.said ≤ now - w.came = leb-true (pause w.said) (now - w.came) parts.1 in
    record { after = after; soon = omega (arith, soon); due = omega (arith, after, due) }

-- ---- how many are left

abbrev pub left_of : Said → ℕ
left_of Once = 3
left_of Twice = 2
left_of Thrice = 1

-- how many copies may still be said of what waits
abbrev pub left : Option Waiting → ℕ
left None = 0
left (Some w) = left_of w.said

pub left_at_most : (o : Option Waiting) → left o ≤ 3
left_at_most None = omega arith
left_at_most (Some w) = by w.said
  where
    by : (x : Said) → left_of x ≤ 3
    by Once = omega arith
    by Twice = omega arith
    by Thrice = omega arith

once_less : (w : Waiting) (x : Said) → w.said ≡ x → left (once_more w) + 1 ≡ left_of x
once_less w Once e = rw e refl
once_less w Twice e = rw e refl
once_less w Thrice e = rw e refl

-- a wake takes from it what is said
pub woken_less : (o : Option Waiting) (now : ℕ) → said_count o now + left (after_wake now o) ≤ left o
woken_less None now = omega arith
woken_less (Some w) now = late (is_late w now) refl
  where
    said : (b : Bool) → is_said w now ≡ b → cond b 1 0 + left (cond b (once_more w) (Some w)) ≤ left_of w.said
    said true e = omega (arith, once_less w w.said refl)
    said false e = omega arith

    late : (b : Bool) → is_late w now ≡ b
        → said_count (Some w) now + left (cond b None (cond (is_said w now) (once_more w) (Some w))) ≤ left_of w.said
    late true e =
        let unsaid : is_said w now ≡ false = rw e refl in
        rw unsaid (omega arith)
    late false e = said (is_said w now) refl
