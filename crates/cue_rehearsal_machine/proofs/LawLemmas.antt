-- What every rehearsal keeps.
use Rattle.std.proofs.Common.{◌≡◌, ℕ, zero, suc, ◌<◌, Bool, true, false, cond, eqb, List, [], ◌∷◌, ◌++◌, length}
use Rattle.std.proofs.Common.{map}
use Rattle.std.proofs.Common.{Option, Some, None, refl, sym, ap, ◌∙◌, subst, arith}
use Rattle.std.proofs.Common.{true≢false}
use Rattle.std.specs.Prelude.{Contains, get_or, slice_get}
use Rattle.std.specs.List.{AllByRecursion}
use Rattle.std.proofs.lemmas.Bool.{eq-eqb}
use Rattle.std.proofs.lemmas.Option.{cond_some, none-some, same_Some, slice_get-get_or, slice_get_within}
use Rattle.cue_machine.specs.declared.address.Address.{Address}
use Rattle.cue_machine.specs.declared.ears.Input.TheVariants as input
use Rattle.cue_machine.specs.declared.post.Output.{Output}
use Rattle.cue_machine.specs.declared.post.Output.TheVariants as output
use Rattle.cue_machine.specs.Living.{Turn}
use Rattle.cue_machine.specs.Posting.{Given, given_as, given_of}
use Rattle.cue_device.specs.declared.hearing.Device.{Device}
use Rattle.cue_device.specs.declared.words.Answer.{Answer}
use Rattle.cue_device.specs.declared.words.Answer.TheVariants.{Abort}
use Rattle.cue_device.specs.declared.words.Order.{Order}
use Rattle.cue_device.specs.declared.words.Order.TheVariants.{Move}
use Rattle.cue_device.specs.Datagrams.{answer_text, answered_text}
use Rattle.cue_device.specs.Histories.{Happening, KeepsNumber, KeepsNumbers, answer_to, hears}
use Rattle.cue_device.specs.Histories.{hears_reply}
use Rattle.cue_device.specs.Histories.{orders_of, repeats, restarts, tells}
use Rattle.cue_device.proofs.HistoryLemmas.{all_lawful}
use Rattle.cue_rehearsal.specs.declared.chance.Chance.{Chance}
use Rattle.cue_rehearsal.specs.Playing.{is_silent, told_by}
use Rattle.cue_rehearsal_machine.specs.declared.machine.RehearsalMachine.{RehearsalMachine}
use Rattle.cue_rehearsal_machine.specs.declared.seat.Due.{Due}
use Rattle.cue_rehearsal_machine.specs.declared.seat.Due.TheVariants.{Ends, Repeats}
use Rattle.cue_rehearsal_machine.specs.declared.seat.Seat.{Seat}
use Rattle.cue_rehearsal_machine.specs.Deeds.{Deed, State, happening_at, heard_at, idle, loses, passes_at, state_of}
use Rattle.cue_rehearsal_machine.specs.Laws.{Answers, HadTurns, KeepsTheTable, MovesOnce, Ordered, SendsOnlyAnswers}
use Rattle.cue_rehearsal_machine.specs.Laws.{device_of, history_in}
use Rattle.cue_rehearsal_machine.specs.Seats.{IsHeardBy, answer_passed, answered_at, due_of}
use Rattle.cue_rehearsal_machine.specs.Steps.{Gives, GivesOf, Outcome, goes_out, heard_outcome}
use Rattle.cue_rehearsal_machine.specs.Steps.{passed_outcome, sent_given}
use Rattle.cue_rehearsal_machine.proofs.LifeLemmas.{Facts, NoRestart, Stands, doing_due, facts, number_now, ordered_due}
use Rattle.cue_rehearsal_machine.proofs.LifeLemmas.{ordered_now, ordered_unheard, same_length, sits}
use Rattle.cue_rehearsal_machine.proofs.TableLemmas.{ended_answer}

-- ---- the table

pub keeps-the-table : KeepsTheTable
keeps-the-table m ts m_then had at first seat e f =
    let found = sits first at m ts m_then had.new had.turns e in
    ap (λ (x : Seat). x.player.device) (same_Some seat found.0 (sym f ∙ found.1)) ∙ found.2.device

keeps_number : (h : Happening) (os : List Order) → NoRestart h → KeepsNumber h os
keeps_number (hears c) os f = tt
keeps_number (tells t) os f = tt
keeps_number repeats os f = tt
keeps_number hears_reply os f = tt
keeps_number (restarts n) os f = absurd f

keeps_numbers : (d : Device) (hs : List Happening) → AllByRecursion NoRestart hs → KeepsNumbers d hs
keeps_numbers d [] f = tt
keeps_numbers d (h ∷ hs) f = (keeps_number h (orders_of d hs) f.0, keeps_numbers d hs f.1)

free_before : (later : List Happening) (h : Happening) (before : List Happening)
    → AllByRecursion NoRestart (later ++ h ∷ before) → AllByRecursion NoRestart before
free_before [] h before f = f.1
free_before (x ∷ later) h before f = free_before later h before f.1

pub moves-once : MovesOnce
moves-once m ts m_then had at q first later h before e f g =
    let found = sits first at m ts m_then had.new had.turns e in
    let free : AllByRecursion NoRestart before =
    free_before later h before (subst (AllByRecursion NoRestart) f found.2.free) in
    (all_lawful first.player.device.number 0 h before (Move q) (keeps_numbers (device_of first) before free) g).0.0

-- ---- what is given

abbrev by_of : Output → ℕ → ℕ
by_of (output.Send by to) other = by
by_of output.Print other = other
by_of output.Say other = other
by_of output.Replace other = other

abbrev to_of : Output → Address → Address
to_of (output.Send by to) other = to
to_of output.Print other = other
to_of output.Say other = other
to_of output.Replace other = other

abbrev sends : Output → Bool
sends (output.Send by to) = true
sends output.Print = false
sends output.Say = false
sends output.Replace = false

-- this datagram is that one
record IsThat (at : ℕ) (from : Address) (text : List ℕ) (by : ℕ) (to : Address) (bytes : List ℕ) : Type 0 where
  pub same_place : at ≡ by
  pub same_address : from ≡ to
  pub same_bytes : text ≡ bytes

same_sending : (at by : ℕ) (from to : Address) (text bytes : List ℕ)
    → given_as (output.Send at from) text ≡ given_as (output.Send by to) bytes → IsThat at from text by to bytes
same_sending at by from to text bytes e = record {
  same_place = ap (λ (g : Given). by_of g.output by) e;
  same_address = ap (λ (g : Given). to_of g.output to) e;
  same_bytes = ap (λ (g : Given). g.bytes) e;
}

no_line : (by : ℕ) (to : Address) (text bytes : List ℕ)
    → given_as output.Print text ≡ given_as (output.Send by to) bytes → ⊥
no_line by to text bytes e = true≢false (sym (ap (λ (g : Given). sends g.output) e))

none_in : (g : Given) → Contains [] g → ⊥
none_in g h = omega (arith, h.1)

in_line : (says : Bool) (text bytes : List ℕ) (by : ℕ) (to : Address)
    → Contains (cond says (given_as output.Print text ∷ []) []) (given_as (output.Send by to) bytes) → ⊥
in_line true text bytes by to (zero, k, e) = no_line by to text bytes e
in_line true text bytes by to (suc i, k, e) = omega (arith, k)
in_line false text bytes by to h = none_in _ h

-- the one datagram that is given
in_given : (goes says : Bool) (at by : ℕ) (from to : Address) (text line bytes : List ℕ)
    → Contains (sent_given at from text goes ++ cond says (given_as output.Print line ∷ []) [])
    (given_as (output.Send by to) bytes)
    → (goes ≡ true) × IsThat at from text by to bytes
in_given false says at by from to text line bytes h = absurd (in_line says line bytes by to h)
in_given true says at by from to text line bytes (zero, k, e) = (refl, same_sending at by from to text bytes e)
in_given true says at by from to text line bytes (suc i, k, e) =
    absurd (in_line says line bytes by to (i, omega (arith, k), e))

in_outcome : (s : State) (at by : ℕ) (to : Address) (o : Outcome) (given : List Given) (bytes : List ℕ)
    → GivesOf s at o given → Contains given (given_as (output.Send by to) bytes)
    → (goes_out s.loss o.chance o.bytes ≡ true) × IsThat at o.to o.bytes by to bytes
in_outcome s at by to o given bytes gave h =
    in_given (goes_out s.loss o.chance o.bytes) o.says at by o.to to o.bytes gave.text bytes
    (subst (λ (gs : List Given). Contains gs (given_as (output.Send by to) bytes)) gave.printed h)

-- what goes out is an answer
goes_answer : (loss : ℕ) (c : Chance) (n : ℕ) (o : Option Answer) → goes_out loss c (answered_text n o) ≡ true
    → (a : Answer) × (o ≡ Some a)
goes_answer loss c n None e = absurd (true≢false (sym e))
goes_answer loss c n (Some a) e = (a, refl)

-- ---- whose answer it is

-- all that is known of a datagram that leaves, when the device at its socket stands so
abbrev IsHis : Seat → Seat → ℕ → Address → List ℕ → List Happening → List Turn → Turn → Deed → Type 0
IsHis first seat by to bytes hs ts t d = Stands first by seat hs ts → Answers first by to bytes hs d (ts ++ t ∷ [])

his : (first seat : Seat) (by : ℕ) (to : Address) (hs : List Happening) (ts : List Turn) (t : Turn)
    (d : Deed) (h : Happening) (a : Answer) (o : Option Answer)
    → happening_at by d ≡ Some h → answer_to h seat.player.device ≡ o → o ≡ Some a
    → Ordered by first.player.device.number to (ts ++ t ∷ [])
    → IsHis first seat by to (answered_text seat.player.device.number o) hs ts t d
his first seat by to hs ts t d h a o e f g ordered st = record {
  what = h;
  happens = e;
  answer = a;
  answers = ap (answer_to h) (sym st.device) ∙ (f ∙ g);
  text = ap (answered_text seat.player.device.number) g
      ∙ ap (λ (n : ℕ). answer_text n a) (number_now first by seat hs ts st);
  ordered = ordered;
}

here : (by : ℕ) (h : Happening) → cond (eqb by by) (Some h) None ≡ Some h
here by h = ap (λ (b : Bool). cond b (Some h) None) (eq-eqb by by refl)

-- it answers an order that it hears
heard_his : (first seat : Seat) (by : ℕ) (from : Address) (hs : List Happening) (ts : List Turn) (t : Turn)
    (silent : Bool) (what : Option Happening) (a : Answer)
    → Stands first by seat hs ts → t.heard.input ≡ input.Datagram by from
    → IsHeardBy silent first.player.device.number t.heard.bytes what
    → answered_at what seat.player.device ≡ Some a
    → Answers first by from (answered_text seat.player.device.number (answered_at what seat.player.device)) hs
    (heard_at by seat from what) (ts ++ t ∷ [])
heard_his first seat by from hs ts t silent None a st e f g = absurd (none-some a g)
heard_his first seat by from hs ts t true (Some h) a st e f g = absurd (none-some h (sym f))
heard_his first seat by from hs ts t false (Some (hears c)) a st e f g =
    his first seat by from hs ts t (heard_at by seat from (Some (hears c))) (hears c) a _ (here by (hears c)) refl g
    (ordered_now by first.player.device.number from ts t c e f) st
heard_his first seat by from hs ts t false (Some hears_reply) a st e f g = absurd (none-some a g)
heard_his first seat by from hs ts t false (Some (tells x)) a st e f g = absurd f
heard_his first seat by from hs ts t false (Some repeats) a st e f g = absurd f
heard_his first seat by from hs ts t false (Some (restarts n)) a st e f g = absurd f

-- it answers by itself
passed_his : (first seat : Seat) (by now : ℕ) (hs : List Happening) (ts : List Turn) (t : Turn) (due : Due) (a : Answer)
    → Stands first by seat hs ts → due_of now seat ≡ Some due → answer_passed due seat ≡ Some a
    → Answers first by seat.controller (answered_text seat.player.device.number (answer_passed due seat)) hs
    (passes_at by seat due) (ts ++ t ∷ [])
passed_his first seat by now hs ts t (Ends o) a st e g =
    his first seat by seat.controller hs ts t (passes_at by seat (Ends o)) (tells (told_by o seat.player)) a _
    (here by (tells (told_by o seat.player)))
    (sym (ended_answer seat.player o (doing_due first by seat hs ts now o st e))) g
    (ordered_due first by seat hs ts t now o st e) st
passed_his first seat by now hs ts t Repeats a st e g =
    his first seat by seat.controller hs ts t (passes_at by seat Repeats) repeats a _ (here by repeats) refl g
    (ordered_unheard first by seat hs ts t st
    (cond_some seat.player.device.unheard (Abort seat.player.device.last) a g).0) st

-- ---- the law

-- who sat at this place at the beginning, and how that device stands
sitting : (m : RehearsalMachine) (ts : List Turn) (mid : RehearsalMachine) (had : HadTurns m ts mid) (by : ℕ)
    (seat : Seat)
    → slice_get mid.seats.items by ≡ Some seat
    → (first : Seat) × (slice_get m.seats.items by ≡ Some first) × Stands first by seat (history_in m ts mid had by) ts
sitting m ts mid had by seat e =
    let within : by < length m.seats.items =
    subst (λ (n : ℕ). by < n) (same_length m ts mid had.turns) (slice_get_within mid.seats.items by seat e) in
    let first : Seat = get_or m.seats.items by seat in
    let there : slice_get m.seats.items by ≡ Some first = slice_get-get_or m.seats.items by seat within in
    let found = sits first by m ts mid had.new had.turns there in (
      first,
      there,
      subst (λ (x : Seat). Stands first by x (history_in m ts mid had by) ts)
          (same_Some found.0 seat (sym found.1 ∙ e)) found.2,
    )

abbrev IsSent : RehearsalMachine → (ts : List Turn) → Turn → ℕ → Address → List ℕ → List Happening → Deed → Type 0
IsSent m ts t by to bytes hs d =
    (first : Seat) × (slice_get m.seats.items by ≡ Some first) × Answers first by to bytes hs d (ts ++ t ∷ [])

sent_by : (m : RehearsalMachine) (ts : List Turn) (mid : RehearsalMachine) (had : HadTurns m ts mid) (t : Turn)
    (by : ℕ) (to : Address) (bytes : List ℕ) (d : Deed) (given : List Given)
    → Facts (state_of mid) t.heard.now t.heard.input t.heard.bytes d → Gives (state_of mid) t.heard.now d given
    → Contains given (given_as (output.Send by to) bytes)
    → IsSent m ts t by to bytes (history_in m ts mid had by) d
sent_by m ts mid had t by to bytes idle given f gave h =
    absurd (none_in _ (subst (λ (gs : List Given). Contains gs (given_as (output.Send by to) bytes)) gave h))
sent_by m ts mid had t by to bytes loses given f gave h =
    absurd (none_in _ (subst (λ (gs : List Given). Contains gs (given_as (output.Send by to) bytes)) gave h))
sent_by m ts mid had t by to bytes (heard_at at seat from what) given f gave h =
    let s : State = state_of mid in
    let o : Outcome = heard_outcome s t.heard.now seat from what in
    let one = in_outcome s at by to o given bytes gave h in
    let answer = goes_answer s.loss o.chance seat.player.device.number (answered_at what seat.player.device) one.0 in
    let who = sitting m ts mid had at seat f.1 in
    let hs : ℕ → List Happening = history_in m ts mid had in
    let d : ℕ → Deed = λ _. heard_at at seat from what in
    let meant = subst (λ (n : ℕ). IsHeardBy (is_silent seat.player.manner.behaviour) n t.heard.bytes what)
    (number_now who.0 at seat (hs at) ts who.2) f.2 in
    let his : IsSent m ts t at from o.bytes (hs at) (d at) = (
      who.0,
      who.1,
      heard_his who.0 seat at from (hs at) ts t (is_silent seat.player.manner.behaviour) what answer.0 who.2
          f.0 meant answer.1,
    ) in
    subst (λ (x : List ℕ). IsSent m ts t by to x (hs by) (d at)) one.1.same_bytes
    (subst (λ (x : Address). IsSent m ts t by x o.bytes (hs by) (d at)) one.1.same_address
    (subst (λ (x : ℕ). IsSent m ts t x from o.bytes (hs x) (d at)) one.1.same_place his))
sent_by m ts mid had t by to bytes (passes_at at seat due) given f gave h =
    let s : State = state_of mid in
    let o : Outcome = passed_outcome s t.heard.now seat due in
    let one = in_outcome s at by to o given bytes gave h in
    let answer = goes_answer s.loss o.chance seat.player.device.number (answer_passed due seat) one.0 in
    let who = sitting m ts mid had at seat f.0 in
    let hs : ℕ → List Happening = history_in m ts mid had in
    let d : Deed = passes_at at seat due in
    let his : IsSent m ts t at seat.controller o.bytes (hs at) d =
    (who.0, who.1, passed_his who.0 seat at t.heard.now (hs at) ts t due answer.0 who.2 f.1 answer.1) in
    subst (λ (x : List ℕ). IsSent m ts t by to x (hs by) d) one.1.same_bytes
    (subst (λ (x : Address). IsSent m ts t by x o.bytes (hs by) d) one.1.same_address
    (subst (λ (x : ℕ). IsSent m ts t x seat.controller o.bytes (hs x) d) one.1.same_place his))

pub sends-only-answers : SendsOnlyAnswers
sends-only-answers m ts mid t m_then had one by to bytes h =
    let s : State = state_of mid in
    sent_by m ts mid had t by to bytes one.stepped.deed (map given_of t.posted)
    (facts s t.heard.now t.heard.input t.heard.bytes one.stepped.deed one.stepped.happens) one.stepped.gave h
