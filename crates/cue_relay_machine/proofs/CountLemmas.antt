-- What a life counts.
use Rattle.std.proofs.Common.{◌≡◌, ℕ, suc, ◌+◌, ◌-◌, ◌<◌, ◌≤◌, Bool, true, false, cond, List, [], ◌∷◌, ◌++◌}
use Rattle.std.proofs.Common.{length, map}
use Rattle.std.proofs.Common.{Option, Some, None, refl, sym, ap, ◌∙◌, subst, arith, length-append}
use Rattle.std.specs.Prelude.{count_by, drop, get_or, is_none, is_some, slice_get}
use Rattle.std.proofs.lemmas.Option.{none-some}
use Rattle.std.proofs.lemmas.Bool.{lt-ltb}
use Rattle.std.proofs.lemmas.List.{map-append}
use Rattle.std.proofs.lemmas.List.Sums.{sum_by-append}
use Rattle.cue_machine.specs.declared.address.Address as machine
use Rattle.cue_machine.specs.declared.ears.Input.{Input}
use Rattle.cue_machine.specs.declared.ears.Input.TheVariants as input
use Rattle.cue_machine.specs.declared.post.Output.{Output}
use Rattle.cue_machine.specs.declared.post.Output.TheVariants as output
use Rattle.cue_machine.specs.Living.{AreTurns, Turn, after_loss_of, after_losses}
use Rattle.cue_machine.specs.Posting.{Given, Posted, given_as, given_of, posted_as}
use Rattle.cue_relay.specs.declared.claims.Claim.{Claim}
use Rattle.cue_relay.specs.declared.relaying.Relay.{Relay}
use Rattle.cue_relay.specs.declared.going.Going.{Going}
use Rattle.cue_relay.specs.declared.relaying.Counts.{Counts}
use Rattle.cue_relay.specs.Rates.{admits}
use Rattle.cue_relay.specs.Relayed.{Answer, Sending, comes, ticks, goes_on, way_and_message}
use Rattle.cue_relay.specs.Telling.{claim_from, claim_of}
use Rattle.cue_relay_machine.specs.declared.books.Books.{Books}
use Rattle.cue_relay_machine.specs.declared.known.Known.{Known}
use Rattle.cue_relay_machine.specs.declared.machine.RelayMachine.{RelayMachine}
use Rattle.cue_relay_machine.specs.Books.{books_lost, counted, highest, is_due, one_dropped, one_lost, one_passed}
use Rattle.cue_relay_machine.specs.Laws.{Adds, CountsAll, is_counted, is_lost_sending, total}
use Rattle.cue_relay_machine.specs.Lives.{relay_machine}
use Rattle.cue_relay_machine.specs.Places.{across_from, machine_address, opening_at, relay_address}
use Rattle.cue_relay_machine.specs.Steps.{State, after_loss, books_after, books_told, came, gives, going_given, state_of}
use Rattle.cue_relay_machine.specs.Steps.{state_then, state_ticked, state_woken, told_given}
use Rattle.cue_relay_machine.specs.Turns.{all_at_once, answer_as, answer_of, at_once, sending_as, sendings}
use Rattle.cue_relay_machine.proofs.LifeLemmas.{sendings_both, told_none, turn_hands}

count_both : (xs ys : List Posted)
    → count_by is_lost_sending (xs ++ ys) ≡ count_by is_lost_sending xs + count_by is_lost_sending ys
count_both xs ys = sum_by-append (λ x. cond (is_lost_sending x) 1 0) xs ys

counted_is : (n : ℕ) → n < highest → counted n ≡ n + 1
counted_is n h = rw (lt-ltb n highest h) refl

-- ---- what is no datagram

nil_parts : (xs ys : List Sending) → xs ++ ys ≡ [] → (xs ≡ []) × (ys ≡ [])
nil_parts [] ys e = (refl, e)
nil_parts (x ∷ xs) ys e = absurd (omega (arith, ap length e))

-- the counts stay, and nothing of it counts as lost
abbrev IsQuiet : RelayMachine → List Posted → Type 0
IsQuiet m ps =
    ((after_losses after_loss ps m).books.counts ≡ m.books.counts) × (count_by is_lost_sending ps ≡ 0)

quiet_one : (o : Output) (bytes : List ℕ) (lost : Bool) (m : RelayMachine) → sending_as o bytes ≡ []
    → IsQuiet m (record { given = record { output = o; bytes = bytes }; lost = lost } ∷ [])
quiet_one (output.Send by to) bytes lost m e = absurd (omega (arith, ap length e))
quiet_one output.Print bytes true m e = (refl, refl)
quiet_one output.Print bytes false m e = (refl, refl)
quiet_one output.Say bytes true m e = (refl, refl)
quiet_one output.Say bytes false m e = (refl, refl)
quiet_one output.Replace bytes true m e = (refl, refl)
quiet_one output.Replace bytes false m e = (refl, refl)

quiet : (ps : List Posted) (m : RelayMachine) → sendings (map given_of ps) ≡ [] → IsQuiet m ps
quiet [] m e = (refl, refl)
quiet (p ∷ ps) m e =
    let parts = nil_parts (sending_as p.given.output p.given.bytes) (sendings (map given_of ps)) e in
    let one = quiet_one p.given.output p.given.bytes p.lost m parts.0 in
    let more = quiet ps (after_loss_of after_loss p m) parts.1 in
    (more.0 ∙ one.0, omega (arith, more.1, one.1, count_both (p ∷ []) ps))

-- ---- a datagram

-- it is dropped, and nothing is posted
drops : (m mid : RelayMachine) (ps : List Posted) → total m.books.counts < highest → map given_of ps ≡ []
    → mid.books ≡ one_dropped m.books → Adds m.books.counts (after_losses after_loss ps mid).books.counts 1 ps
drops m mid [] fits e f =
    let more : counted m.books.counts.dropped ≡ m.books.counts.dropped + 1 =
    counted_is m.books.counts.dropped (omega (arith, fits)) in
    rw f (omega arith, omega arith, omega (arith, more))
drops m mid (p ∷ ps) fits e f = absurd (omega (arith, ap length e))

-- the datagram itself, once it was counted
sent_one : (b : Books) (by : ℕ) (to : machine.Address) (lost : Bool) → total b.counts < highest
    → let d = (cond lost (one_lost (one_passed b) (output.Send by to)) (one_passed b)).counts in
    (d.lost ≡ b.counts.lost + cond lost 1 0) × (d.passed + d.lost ≡ b.counts.passed + b.counts.lost + 1)
    × (total d ≡ total b.counts + 1)
sent_one b by to true fits =
    let lost = counted_is b.counts.lost (omega (arith, fits)) in
    let passed = counted_is b.counts.passed (omega (arith, fits)) in
    (lost, omega (arith, lost, passed), omega (arith, lost, passed))
sent_one b by to false fits =
    let passed = counted_is b.counts.passed (omega (arith, fits)) in
    (omega arith, omega (arith, passed), omega (arith, passed))

lossy_books : (m : RelayMachine) (by : ℕ) (to : machine.Address) (b : Bool) → m.woken ≡ false
    → (cond b (after_loss m (output.Send by to)) m).books ≡ cond b (one_lost m.books (output.Send by to)) m.books
lossy_books m by to true e = ap (λ (w : Bool). books_lost w m.books (output.Send by to)) e
lossy_books m by to false e = refl

lost_one : (by : ℕ) (to : machine.Address) (bytes : List ℕ) (lost : Bool)
    → count_by is_lost_sending (posted_as (output.Send by to) bytes lost ∷ []) ≡ cond lost 1 0
lost_one by to bytes true = refl
lost_one by to bytes false = refl

-- it goes on, and of what else was posted nothing is a datagram
going_one : (m mid : RelayMachine) (by : ℕ) (to : machine.Address) (bytes : List ℕ) (lost : Bool) (ps : List Posted)
    → total m.books.counts < highest → sendings (map given_of ps) ≡ [] → mid.books ≡ one_passed m.books
    → mid.woken ≡ false
    → Adds m.books.counts
    (after_losses after_loss (posted_as (output.Send by to) bytes lost ∷ ps) mid).books.counts 1
    (posted_as (output.Send by to) bytes lost ∷ ps)
going_one m mid by to bytes lost ps fits none f woken =
    let p : Posted = posted_as (output.Send by to) bytes lost in
    let q = quiet ps (after_loss_of after_loss p mid) none in
    let base : (after_loss_of after_loss p mid).books.counts
    ≡ (cond lost (one_lost (one_passed m.books) (output.Send by to)) (one_passed m.books)).counts =
    ap (λ (b : Books). b.counts) (lossy_books mid by to lost woken)
    ∙ ap (λ (b : Books). (cond lost (one_lost b (output.Send by to)) b).counts) f in
    let one = sent_one m.books by to lost fits in
    let lost_all : count_by is_lost_sending (p ∷ ps) ≡ cond lost 1 0 =
    omega (arith, count_both (p ∷ []) ps, lost_one by to bytes lost, q.1) in
    let sent_all : length (sendings (map given_of (p ∷ ps))) ≡ 1 = ap suc (ap length none) in
    rw (q.0 ∙ base) (
      omega (arith, one.0, lost_all),
      omega (arith, one.1, sent_all),
      omega (arith, one.2),
    )

going_adds : (m mid : RelayMachine) (date : List ℕ) (known : List Known) (at : ℕ) (bytes : List ℕ) (o : Option Going)
    (ps : List Posted)
    → total m.books.counts < highest → map given_of ps ≡ going_given date known at bytes o
    → mid.books ≡ books_after m.books o → mid.woken ≡ false
    → Adds m.books.counts (after_losses after_loss ps mid).books.counts 1 ps
going_adds m mid date known at bytes None ps fits e f woken = drops m mid ps fits e f
going_adds m mid date known at bytes (Some g) [] fits e f woken = absurd (omega (arith, ap length e))
going_adds m mid date known at bytes (Some g) (p ∷ ps) fits e f woken =
    let send : Given = given_as (output.Send (across_from at) (machine_address g.way.to)) bytes in
    let first : p.given ≡ send = ap (λ (gs : List Given). get_or gs 0 send) e in
    let rest : map given_of ps ≡ told_given date (slice_get known (opening_at at).route) g.message = ap (drop 1) e in
    let none : sendings (map given_of ps) ≡ [] =
    ap sendings rest ∙ told_none date (slice_get known (opening_at at).route) g.message in
    let same : p ≡ record { given = send; lost = p.lost } =
    ap (λ (x : Given). record { given = x; lost = p.lost }) first in
    subst (λ (x : Posted). Adds m.books.counts (after_losses after_loss (x ∷ ps) mid).books.counts 1 (x ∷ ps))
    (sym same)
    (going_one m mid (across_from at) (machine_address g.way.to) bytes p.lost ps fits none f woken)

-- ---- turns

-- what was lost of what was given at a wake changes no count
woken_one : (m : RelayMachine) (x : Output) (b : Bool) → m.woken ≡ true
    → ((cond b (after_loss m x) m).books.counts ≡ m.books.counts) × ((cond b (after_loss m x) m).woken ≡ true)
woken_one m (output.Send by to) true e =
    (ap (λ (w : Bool). (books_lost w m.books (output.Send by to)).counts) e, e)
woken_one m output.Print true e = (refl, e)
woken_one m output.Say true e = (refl, e)
woken_one m output.Replace true e = (refl, e)
woken_one m x false e = (refl, e)

woken_counts : (ps : List Posted) (m : RelayMachine) → m.woken ≡ true
    → (after_losses after_loss ps m).books.counts ≡ m.books.counts
woken_counts [] m e = refl
woken_counts (p ∷ ps) m e =
    let one = woken_one m p.given.output p.lost e in
    woken_counts ps (after_loss_of after_loss p m) one.1 ∙ one.0

nothing_adds : (c d : Counts) → d ≡ c → Adds c d 0 []
nothing_adds c d e = rw e (omega arith, omega arith, omega arith)

quiet_adds : (m mid : RelayMachine) (ps : List Posted) → sendings (map given_of ps) ≡ []
    → mid.books.counts ≡ m.books.counts → Adds m.books.counts (after_losses after_loss ps mid).books.counts 0 ps
quiet_adds m mid ps none e =
    let q = quiet ps mid none in
    rw (q.0 ∙ e) (omega (arith, q.1), omega (arith, ap length none), omega arith)

ticked_counts : (s : State) (now : ℕ) (b : Bool)
    → (state_woken (cond b (state_ticked s now) s) now).books.counts ≡ s.books.counts
ticked_counts s now true = refl
ticked_counts s now false = refl

-- it says nothing that goes on, since it tells something
told_goes : (r : Relay) (meters : List (List ℕ)) (now at : ℕ) (from : machine.Address) (bytes : List ℕ) (c : Claim)
    → claim_of r (came now at from bytes) ≡ Some c → goes_on r meters (came now at from bytes) ≡ None
told_goes r meters now at from bytes c e =
    by (admits meters (opening_at at) now) (way_and_message r (opening_at at) (relay_address from) bytes) e
  where
    by : (b : Bool) (o : Option Going)
        → cond (is_some o) None (claim_from r (opening_at at) (relay_address from) bytes) ≡ Some c
        → cond b o None ≡ None
    by b (Some g) k = absurd (none-some c k)
    by true None k = refl
    by false None k = refl

counted_yes : (r : Relay) (now at : ℕ) (from : machine.Address) (bytes : List ℕ)
    → claim_of r (came now at from bytes) ≡ None → count_by (is_counted r) (came now at from bytes ∷ []) ≡ 1
counted_yes r now at from bytes e = ap (λ (o : Option Claim). 0 + cond (is_none o) 1 0) e

counted_no : (r : Relay) (now at : ℕ) (from : machine.Address) (bytes : List ℕ) (c : Claim)
    → claim_of r (came now at from bytes) ≡ Some c → count_by (is_counted r) (came now at from bytes ∷ []) ≡ 0
counted_no r now at from bytes c e = ap (λ (o : Option Claim). 0 + cond (is_none o) 1 0) e

-- a datagram that came
came_adds : (m mid : RelayMachine) (now at : ℕ) (from : machine.Address) (bytes : List ℕ) (ps : List Posted)
    (date : List ℕ) (o : Option Claim)
    → total m.books.counts < highest
    → map given_of ps
    ≡ going_given date m.known.items at bytes (goes_on m.relay m.meters.items (came now at from bytes))
    → claim_of m.relay (came now at from bytes) ≡ o
    → mid.books ≡ books_told m.books o (goes_on m.relay m.meters.items (came now at from bytes)) → mid.woken ≡ false
    → Adds m.books.counts (after_losses after_loss ps mid).books.counts
    (count_by (is_counted m.relay) (came now at from bytes ∷ [])) ps
came_adds m mid now at from bytes ps date None fits e told f woken =
    subst (λ (n : ℕ). Adds m.books.counts (after_losses after_loss ps mid).books.counts n ps)
    (sym (counted_yes m.relay now at from bytes told))
    (going_adds m mid date m.known.items at bytes (goes_on m.relay m.meters.items (came now at from bytes)) ps fits e f
    woken)
came_adds m mid now at from bytes ps date (Some c) fits e told f woken =
    let none : map given_of ps ≡ [] =
    e ∙ ap (going_given date m.known.items at bytes) (told_goes m.relay m.meters.items now at from bytes c told) in
    subst (λ (n : ℕ). Adds m.books.counts (after_losses after_loss ps mid).books.counts n ps)
    (sym (counted_no m.relay now at from bytes c told))
    (quiet_adds m mid ps (ap sendings none) (ap (λ (b : Books). b.counts) f))

turn_adds : (m mid : RelayMachine) (now : ℕ) (i : Input) (bytes : List ℕ) (ps : List Posted) (date : List ℕ)
    → total m.books.counts < highest → map given_of ps ≡ gives date (state_of m) now i bytes
    → state_of mid ≡ state_then (state_of m) now i bytes
    → Adds m.books.counts (after_losses after_loss ps mid).books.counts
    (count_by (is_counted m.relay) (answer_as now i bytes ∷ [])) (at_once i ps)
turn_adds m mid now (input.Datagram at from) bytes ps date fits e f =
    came_adds m mid now at from bytes ps date (claim_of m.relay (came now at from bytes)) fits e refl
    (ap (λ (s : State). s.books) f) (ap (λ (s : State). s.woken) f)
turn_adds m mid now (input.Refused at) bytes ps date fits e f =
    quiet_adds m mid ps (ap sendings e) (ap (λ (s : State). s.books.counts) f)
turn_adds m mid now input.Wake bytes ps date fits e f =
    nothing_adds m.books.counts (after_losses after_loss ps mid).books.counts
    (woken_counts ps mid (ap (λ (s : State). s.woken) f)
    ∙ (ap (λ (s : State). s.books.counts) f ∙ ticked_counts (state_of m) now (is_due m.books now)))

length_both : (xs ys : List Posted) → length (sendings (map given_of (xs ++ ys)))
    ≡ length (sendings (map given_of xs)) + length (sendings (map given_of ys))
length_both xs ys =
    ap length (ap sendings (map-append given_of xs ys) ∙ sendings_both (map given_of xs) (map given_of ys))
    ∙ length-append (sendings (map given_of xs)) (sendings (map given_of ys))

came_both : (r : Relay) (a : Answer) (more : List Answer)
    → count_by (is_counted r) (a ∷ more) ≡ count_by (is_counted r) (a ∷ []) + count_by (is_counted r) more
came_both r a more = sum_by-append (λ x. cond (is_counted r x) 1 0) (a ∷ []) more

came_at_most : (r : Relay) (a : Answer) → count_by (is_counted r) (a ∷ []) ≤ 1
came_at_most r a = by (is_counted r a)
  where
    by : (b : Bool) → 0 + cond b 1 0 ≤ 1
    by true = omega arith
    by false = omega arith

turns_add : (m : RelayMachine) (ts : List Turn) (m_then : RelayMachine) → AreTurns relay_machine m ts m_then
    → total m.books.counts + length ts ≤ highest
    → Adds m.books.counts m_then.books.counts (count_by (is_counted m.relay) (map answer_of ts)) (all_at_once ts)
turns_add m [] m_then h fits = rw h (omega arith, omega arith, omega arith)
turns_add m (t ∷ ts) m_then h fits =
    let r : Relay = m.relay in
    let step = h.1.stepped in
    let less : total m.books.counts < highest = omega (arith, fits) in
    let posted : List Posted = at_once t.heard.input t.posted in
    let one : Adds m.books.counts h.0.books.counts (count_by (is_counted r) (answer_of t ∷ [])) posted =
    subst (λ (x : RelayMachine).
    Adds m.books.counts x.books.counts (count_by (is_counted r) (answer_of t ∷ [])) posted)
    (sym h.1.after)
    (turn_adds m h.1.mid t.heard.now t.heard.input t.heard.bytes t.posted step.date less step.gave step.left) in
    let room : total h.0.books.counts + length ts ≤ highest =
    omega (arith, fits, one.2, came_at_most r (answer_of t)) in
    let more : Adds h.0.books.counts m_then.books.counts (count_by (is_counted r) (map answer_of ts))
    (all_at_once ts) =
    subst (λ (x : Relay).
    Adds h.0.books.counts m_then.books.counts (count_by (is_counted x) (map answer_of ts)) (all_at_once ts))
    (turn_hands m t h.0 h.1).relay (turns_add h.0 ts m_then h.2 room) in
    let lost : count_by is_lost_sending (all_at_once (t ∷ ts))
    ≡ count_by is_lost_sending posted + count_by is_lost_sending (all_at_once ts) =
    count_both posted (all_at_once ts) in
    let sent : length (sendings (map given_of (all_at_once (t ∷ ts))))
    ≡ length (sendings (map given_of posted)) + length (sendings (map given_of (all_at_once ts))) =
    length_both posted (all_at_once ts) in
    let came : count_by (is_counted r) (map answer_of (t ∷ ts))
    ≡ count_by (is_counted r) (answer_of t ∷ []) + count_by (is_counted r) (map answer_of ts) =
    came_both r (answer_of t) (map answer_of ts) in (
      omega (arith, one.0, more.0, lost),
      omega (arith, one.1, more.1, sent),
      omega (arith, one.2, more.2, came),
    )

pub counts-all : CountsAll
counts-all m ts m_then h fits =
    let none : Counts = record { passed = 0; lost = 0; dropped = 0 } in
    let start : m.books.counts ≡ none = ap (λ (s : State). s.books.counts) h.new in
    let room : total m.books.counts + length ts ≤ highest = omega (arith, fits, ap total start) in
    subst (λ (c : Counts).
    Adds c m_then.books.counts (count_by (is_counted m.relay) (map answer_of ts)) (all_at_once ts)) start
    (turns_add m ts m_then h.turns room)
