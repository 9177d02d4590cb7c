-- What a life hands on, turn by turn.
use Rattle.std.proofs.Common.{◌≡◌, ◌≢◌, ℕ, ◌+◌, ◌-◌, ◌/◌, ◌%◌, ◌==◌, Bool, true, false, cond, List, []}
use Rattle.std.proofs.Common.{◌∷◌, ◌++◌}
use Rattle.std.proofs.Common.{map, Option, Some, None, refl, sym, ap, ◌∙◌, subst, arith, append-nil, append_assoc}
use Rattle.std.specs.Prelude.{slice_get}
use Rattle.std.proofs.lemmas.Bool.{eqb-true, eqb-false}
use Rattle.std.proofs.lemmas.List.{map-append}
use Rattle.std.proofs.lemmas.Option.{none-some}
use Rattle.cue_machine.specs.declared.ears.Input.{Input}
use Rattle.cue_machine.specs.declared.ears.Input.TheVariants as input
use Rattle.cue_machine.specs.declared.address.Address as machine
use Rattle.cue_machine.specs.declared.post.Output.{Output}
use Rattle.cue_machine.specs.declared.post.Output.TheVariants as output
use Rattle.cue_machine.specs.Living.{AreTurns, IsTurn, Turn, after_loss_of, after_losses}
use Rattle.cue_machine.specs.Posting.{Given, Posted, given_as, given_of}
use Rattle.cue_relay.specs.declared.going.Going.{Going}
use Rattle.cue_relay.specs.declared.hearing.News.{News}
use Rattle.cue_relay.specs.declared.messages.Message.{Message}
use Rattle.cue_relay.specs.declared.relaying.Relay.{Relay}
use Rattle.cue_relay.specs.declared.route.Opening.{Opening}
use Rattle.cue_relay.specs.declared.route.Side.TheVariants.{Controller, Stage}
use Rattle.cue_relay.specs.Rates.{admits}
use Rattle.cue_relay.specs.Relayed.{Sending, goes_on, handed_from, handed_on, no_times, sent_by, times_then}
use Rattle.cue_relay.specs.Relayed.{way_and_message}
use Rattle.cue_relay.specs.Relaying.{across}
use Rattle.cue_relay.proofs.WayLemmas.{goes}
use Rattle.cue_relay_machine.specs.declared.books.Books.{Books}
use Rattle.cue_relay_machine.specs.declared.copies.Waiting.{Waiting}
use Rattle.cue_relay_machine.specs.declared.known.Known.{Known}
use Rattle.cue_relay_machine.specs.declared.machine.RelayMachine.{RelayMachine}
use Rattle.cue_relay_machine.specs.Books.{is_due, report, says_trouble}
use Rattle.cue_relay_machine.specs.Copies.{after_wake, copies_given}
use Rattle.cue_relay_machine.specs.Lives.{IsNew, relay_machine}
use Rattle.cue_relay_machine.specs.Places.{across_from, opening_at, relay_address}
use Rattle.cue_relay_machine.specs.Steps.{State, after_loss, came, file_given, gives, going_given, news_given}
use Rattle.cue_relay_machine.specs.Steps.{report_given, silences_given, state_of, state_then, state_ticked, tick_given}
use Rattle.cue_relay_machine.specs.Steps.{state_woken, told_given, trouble_given, waiting_after, wake_given}
use Rattle.cue_relay_machine.specs.Texts.{after_time_of, known_text}
use Rattle.cue_relay_machine.specs.Turns.{all_at_once, answer_as, answer_of, at_once, at_wake, copies_at, handed_at}
use Rattle.cue_relay_machine.specs.Turns.{handed_in, sending_as, sendings}
use Rattle.cue_relay.specs.Hearing.{told_of_message, told_of_time}

-- ---- what is no datagram

pub sendings_both : (xs ys : List Given) → sendings (xs ++ ys) ≡ sendings xs ++ sendings ys
sendings_both [] ys = refl
sendings_both (x ∷ xs) ys =
    ap (λ (zs : List Sending). sending_as x.output x.bytes ++ zs) (sendings_both xs ys)
    ∙ sym (append_assoc (sending_as x.output x.bytes) (sendings xs) (sendings ys))

none_both : (xs ys : List Given) → sendings xs ≡ [] → sendings ys ≡ [] → sendings (xs ++ ys) ≡ []
none_both xs ys e f = sendings_both xs ys ∙ (ap (λ (zs : List Sending). zs ++ sendings ys) e ∙ f)

pub none_if : (b : Bool) (xs : List Given) → sendings xs ≡ [] → sendings (cond b xs []) ≡ []
none_if true xs e = e
none_if false xs e = refl

news_none : (date : List ℕ) (k : Known) (o : Option News) → sendings (news_given date k o) ≡ []
news_none date k None = refl
news_none date k (Some n) = refl

pub told_none : (date : List ℕ) (o : Option Known) (m : Message) → sendings (told_given date o m) ≡ []
told_none date None m = refl
told_none date (Some k) m = news_none date k (told_of_message k.contact m)

silences_none : (date : List ℕ) (now : ℕ) (ks : List Known) → sendings (silences_given date now ks) ≡ []
silences_none date now [] = refl
silences_none date now (k ∷ ks) =
    none_both (news_given date k (told_of_time k.contact now)) (silences_given date now ks)
    (news_none date k (told_of_time k.contact now)) (silences_none date now ks)

report_none : (date : List ℕ) (o : Option ℕ) → sendings (report_given date o) ≡ []
report_none date None = refl
report_none date (Some n) = refl

trouble_none : (path : List ℕ) (b : Books) → sendings (trouble_given path b) ≡ []
trouble_none path b = none_if (says_trouble b) _ refl

file_none : (file : Option (List ℕ)) (b : Books) (ks : List Known) (now : ℕ) → sendings (file_given file b ks now) ≡ []
file_none None b ks now = refl
file_none (Some path) b ks now =
    none_both (trouble_given path b) (given_as output.Replace (known_text now b.counts ks) ∷ []) (trouble_none path b)
    refl

pub tick_none : (date : List ℕ) (s : State) (now : ℕ) → sendings (tick_given date s now) ≡ []
tick_none date s now =
    let file = file_given s.file s.books (map (after_time_of now) s.known) now in
    none_both (silences_given date now s.known) (report_given date (report s.books now) ++ file)
    (silences_none date now s.known)
    (none_both (report_given date (report s.books now)) file (report_none date (report s.books now))
    (file_none s.file s.books (map (after_time_of now) s.known) now))

-- ---- a datagram that goes on

-- the socket across is that of the other side of the route
across_is : (p : ℕ) (b : Bool) → (p % 2 == 0) ≡ b
    → opening_at (cond b (p + 1) (p - 1)) ≡ record { route = p / 2; side = across (cond b Controller Stage) }
across_is p true e =
    let even : p % 2 ≡ 0 = eqb-true (p % 2) 0 e in
    let half : (p + 1) / 2 ≡ p / 2 = omega (arith, even) in
    let odd : (p + 1) % 2 ≡ 1 = omega (arith, even) in
    rw (half, odd) refl
across_is p false e =
    let odd : p % 2 ≢ 0 = eqb-false (p % 2) 0 e in
    let half : (p - 1) / 2 ≡ p / 2 = omega (arith, odd) in
    let even : (p - 1) % 2 ≡ 0 = omega (arith, odd) in
    rw (half, even) refl

pub admitted : (b : Bool) (o : Option Going) (g : Going) → cond b o None ≡ Some g → o ≡ Some g
admitted true o g e = e
admitted false o g e = absurd (none-some g e)

same_opening : (o : Opening) (p : ℕ) → o.route ≡ (opening_at p).route → o.side ≡ across (opening_at p).side
    → opening_at (across_from p) ≡ o
same_opening o p e f =
    across_is p (p % 2 == 0) refl
    ∙ sym (ap (λ (n : ℕ). record { route = n; side = o.side }) e
    ∙ ap (λ s. record { route = p / 2; side = s }) f)

going_sent : (r : Relay) (meters : List (List ℕ)) (date : List ℕ) (known : List Known) (now at : ℕ)
    (from : machine.Address) (bytes : List ℕ) (o : Option Going) → goes_on r meters (came now at from bytes) ≡ o
    → sendings (going_given date known at bytes o) ≡ sent_by bytes o
going_sent r meters date known now at from bytes None e = refl
going_sent r meters date known now at from bytes (Some g) e =
    let way : way_and_message r (opening_at at) (relay_address from) bytes ≡ Some g =
    admitted (admits meters (opening_at at) now) (way_and_message r (opening_at at) (relay_address from) bytes) g e in
    let w = goes r (opening_at at) (relay_address from) bytes g way in
    let out : opening_at (across_from at) ≡ g.way.out = same_opening g.way.out at w.out w.side in
    ap (λ (ss : List Sending). record {
      way = record { out = opening_at (across_from at); to = g.way.to };
      bytes = bytes;
    } ∷ ss) (told_none date (slice_get known (opening_at at).route) g.message)
    ∙ ap (λ (x : Opening). record { way = record { out = x; to = g.way.to }; bytes = bytes } ∷ []) out

-- ---- steps

-- of a datagram goes on what goes on of it
sent_of : (date : List ℕ) (s : State) (now : ℕ) (i : Input) (bytes : List ℕ) (ps : List Posted)
    → map given_of ps ≡ gives date s now i bytes
    → sendings (map given_of (at_once i ps)) ≡ handed_on s.relay s.meters (answer_as now i bytes)
sent_of date s now (input.Datagram at from) bytes ps e =
    let going = goes_on s.relay s.meters (came now at from bytes) in
    ap sendings e ∙ going_sent s.relay s.meters date s.known now at from bytes going refl
sent_of date s now (input.Refused at) bytes ps e = ap sendings e
sent_of date s now input.Wake bytes ps e = refl

-- at a wake the copies are sent that are due, and nothing else
abbrev pub copies_of : (i : Input) → List (Option Waiting) → ℕ → List Sending
copies_of (input.Datagram at from) waiting now = []
copies_of (input.Refused at) waiting now = []
copies_of input.Wake waiting now = sendings (copies_given 0 waiting now)

wake_sent : (date : List ℕ) (s : State) (now : ℕ)
    → sendings (wake_given date s now) ≡ sendings (copies_given 0 s.waiting now)
wake_sent date s now =
    let tick = cond (is_due s.books now) (tick_given date s now) [] in
    sendings_both (copies_given 0 s.waiting now) tick
    ∙ (ap (λ (ss : List Sending). sendings (copies_given 0 s.waiting now) ++ ss)
    (none_if (is_due s.books now) (tick_given date s now) (tick_none date s now))
    ∙ append-nil (sendings (copies_given 0 s.waiting now)))

copied_of : (date : List ℕ) (s : State) (now : ℕ) (i : Input) (bytes : List ℕ) (ps : List Posted)
    → map given_of ps ≡ gives date s now i bytes
    → sendings (map given_of (at_wake i ps)) ≡ copies_of i s.waiting now
copied_of date s now (input.Datagram at from) bytes ps e = refl
copied_of date s now (input.Refused at) bytes ps e = refl
copied_of date s now input.Wake bytes ps e = ap sendings e ∙ wake_sent date s now

-- what waits once this came
abbrev pub waits_of : Relay → List (List ℕ) → ℕ → Input → List ℕ → List (Option Waiting) → List (Option Waiting)
waits_of r meters now (input.Datagram at from) bytes waiting =
    waiting_after waiting at now bytes (goes_on r meters (came now at from bytes))
waits_of r meters now (input.Refused at) bytes waiting = waiting
waits_of r meters now input.Wake bytes waiting = map (after_wake now) waiting

-- the relay stays, it is noted what went on, and what waits
pub record Notes (s : State) (now : ℕ) (i : Input) (bytes : List ℕ) (s_then : State) : Type 0 where
  pub relay : s_then.relay ≡ s.relay
  pub meters : s_then.meters ≡ times_then s.relay s.meters (answer_as now i bytes)
  pub waiting : s_then.waiting ≡ waits_of s.relay s.meters now i bytes s.waiting

woken_notes : (s : State) (now : ℕ) (bytes : List ℕ) (b : Bool)
    → Notes s now input.Wake bytes (state_woken (cond b (state_ticked s now) s) now)
woken_notes s now bytes true = record { relay = refl; meters = refl; waiting = refl }
woken_notes s now bytes false = record { relay = refl; meters = refl; waiting = refl }

notes_of : (s : State) (now : ℕ) (i : Input) (bytes : List ℕ) → Notes s now i bytes (state_then s now i bytes)
notes_of s now (input.Datagram at from) bytes = record { relay = refl; meters = refl; waiting = refl }
notes_of s now (input.Refused at) bytes = record { relay = refl; meters = refl; waiting = refl }
notes_of s now input.Wake bytes = woken_notes s now bytes (is_due s.books now)

-- ---- what was lost

pub record Keeps (m m_then : RelayMachine) : Type 0 where
  pub relay : m_then.relay ≡ m.relay
  pub meters : m_then.meters ≡ m.meters
  pub waiting : m_then.waiting ≡ m.waiting

keeps_one : (m : RelayMachine) (x : Output) (b : Bool) → Keeps m (cond b (after_loss m x) m)
keeps_one m x true = record { relay = refl; meters = refl; waiting = refl }
keeps_one m x false = record { relay = refl; meters = refl; waiting = refl }

keeps_all : (ps : List Posted) (m : RelayMachine) → Keeps m (after_losses after_loss ps m)
keeps_all [] m = record { relay = refl; meters = refl; waiting = refl }
keeps_all (p ∷ ps) m =
    let one = keeps_one m p.given.output p.lost in
    let more = keeps_all ps (after_loss_of after_loss p m) in
    record {
      relay = more.relay ∙ one.relay;
      meters = more.meters ∙ one.meters;
      waiting = more.waiting ∙ one.waiting;
    }

-- ---- turns

-- a turn hands on what goes on of what came, sends the copies that are due, and notes it
pub record Hands (m : RelayMachine) (t : Turn) (m_then : RelayMachine) : Type 0 where
  pub handed : handed_at t ≡ handed_on m.relay m.meters.items (answer_of t)
  pub copied : copies_at t ≡ copies_of t.heard.input m.waiting.items t.heard.now
  pub relay : m_then.relay ≡ m.relay
  pub noted : m_then.meters.items ≡ times_then m.relay m.meters.items (answer_of t)
  pub waits : m_then.waiting.items
      ≡ waits_of m.relay m.meters.items t.heard.now t.heard.input t.heard.bytes m.waiting.items

pub turn_hands : (m : RelayMachine) (t : Turn) (m_then : RelayMachine) → IsTurn relay_machine m t m_then
    → Hands m t m_then
turn_hands m t m_then h =
    let s : State = state_of m in
    let step = h.stepped in
    let notes : Notes s t.heard.now t.heard.input t.heard.bytes (state_of h.mid) =
    subst (Notes s t.heard.now t.heard.input t.heard.bytes) (sym step.left)
    (notes_of s t.heard.now t.heard.input t.heard.bytes) in
    let kept : Keeps h.mid m_then = subst (Keeps h.mid) (sym h.after) (keeps_all t.posted h.mid) in
    record {
      handed = sent_of step.date s t.heard.now t.heard.input t.heard.bytes t.posted step.gave;
      copied = copied_of step.date s t.heard.now t.heard.input t.heard.bytes t.posted step.gave;
      relay = kept.relay ∙ notes.relay;
      noted = ap (λ v. v.items) kept.meters ∙ notes.meters;
      waits = ap (λ v. v.items) kept.waiting ∙ notes.waiting;
    }

pub handed_more : (t : Turn) (ts : List Turn) → handed_in (t ∷ ts) ≡ handed_at t ++ handed_in ts
handed_more t ts =
    let ps = at_once t.heard.input t.posted in
    ap sendings (map-append given_of ps (all_at_once ts))
    ∙ sendings_both (map given_of ps) (map given_of (all_at_once ts))

pub turns_hand : (m : RelayMachine) (ts : List Turn) (m_then : RelayMachine) → AreTurns relay_machine m ts m_then
    → handed_in ts ≡ handed_from m.relay m.meters.items (map answer_of ts)
turns_hand m [] m_then h = refl
turns_hand m (t ∷ ts) m_then h =
    let one = turn_hands m t h.0 h.1 in
    let more : handed_in ts ≡ handed_from m.relay (times_then m.relay m.meters.items (answer_of t)) (map answer_of ts) =
    turns_hand h.0 ts m_then h.2
    ∙ (ap (λ (r : Relay). handed_from r h.0.meters.items (map answer_of ts)) one.relay
    ∙ ap (λ (x : List (List ℕ)). handed_from m.relay x (map answer_of ts)) one.noted) in
    handed_more t ts
    ∙ (ap (λ (ss : List Sending). ss ++ handed_in ts) one.handed
    ∙ ap (λ (ss : List Sending). handed_on m.relay m.meters.items (answer_of t) ++ ss) more)

-- at first nothing went on yet
pub life_hands : (m : RelayMachine) (ts : List Turn) (m_then : RelayMachine) → IsNew (state_of m)
    → AreTurns relay_machine m ts m_then
    → handed_in ts ≡ handed_from m.relay (no_times m.relay.routes.now) (map answer_of ts)
life_hands m ts m_then new h =
    turns_hand m ts m_then h
    ∙ ap (λ (x : List (List ℕ)). handed_from m.relay x (map answer_of ts)) (ap (λ (s : State). s.meters) new)
