-- What a step gives, and what is left after it.
use Rattle.std.proofs.Common.{◌≡◌, ℕ, ◌<◌, ◌≤◌, Bool, true, false, List, [], Option, Some, refl, sym, ap, ◌∙◌}
use Rattle.std.proofs.Common.{subst}
use Rattle.std.proofs.Common.{inl, inr, length}
use Rattle.std.specs.Prelude.{OnOk, Result, Ok, Err, get_or, is_some, slice_get}
use Rattle.std.proofs.lemmas.Option.{same_Some, slice_get_past, slice_get_read, slice_get_within}
use Rattle.cue_machine.specs.declared.address.Address.{Address}
use Rattle.cue_machine.specs.declared.ears.Input.TheVariants as input
use Rattle.cue_machine.specs.Hearing.{heard_as}
use Rattle.cue_machine.specs.Posting.{Given}
use Rattle.cue_device.specs.declared.hearing.Device.{Device}
use Rattle.cue_device.specs.declared.words.Answer.{Answer}
use Rattle.cue_device.specs.declared.words.Order.{Order}
use Rattle.cue_device.specs.declared.over_bytes.Meaning.{Meaning}
use Rattle.cue_device.specs.declared.over_bytes.Meaning.TheVariants as meaning
use Rattle.cue_device.specs.Datagrams.{answered_text}
use Rattle.cue_device.specs.Meanings.{comes_of}
use Rattle.cue_device.specs.Histories.{Happening}
use Rattle.cue_rehearsal.specs.declared.chance.Chance.{Chance}
use Rattle.cue_rehearsal.specs.declared.player.Player.{Player}
use Rattle.cue_rehearsal.specs.Drawing.{is_lost, next}
use Rattle.cue_rehearsal.specs.Playing.{IsMeaning, IsMeaningBy, after_hearing, is_silent}
use Rattle.cue_rehearsal_machine.specs.declared.seat.Due.{Due}
use Rattle.cue_rehearsal_machine.specs.declared.seat.Seat.{Seat}
use Rattle.cue_rehearsal_machine.specs.Deeds.{IsArrival, IsDue, IsHearing, NothingDue, State, heard_at, idle, loses}
use Rattle.cue_rehearsal_machine.specs.Deeds.{passes_at}
use Rattle.cue_rehearsal_machine.specs.Seats.{IsHeard, IsHeardBy, answer_passed, answered_at, ordered_at}
use Rattle.cue_rehearsal_machine.specs.Seats.{ordered_by, seat_heard, seat_passed, what_of}
use Rattle.cue_rehearsal_machine.specs.Steps.{IsGiven, IsPrinted, Steps, after_answer, drawn, goes_out, is_said}
use Rattle.cue_rehearsal_machine.specs.Steps.{longer_of, sent_given, settled}

-- ---- what a device hears

heard_by : (silent : Bool) (n : ℕ) (bytes : List ℕ) (m : Meaning) → IsMeaningBy silent n bytes m
    → IsHeardBy silent n bytes (what_of m)
heard_by true n bytes m h = ap what_of h
heard_by false n bytes (meaning.Order c) h = h
heard_by false n bytes meaning.Reply h = h
heard_by false n bytes meaning.Nothing h = h

-- what a datagram means to a player happens to it
pub is_heard : (p : Player) (bytes : List ℕ) (m : Meaning) → IsMeaning p bytes m → IsHeard p bytes (what_of m)
is_heard p bytes m h = heard_by (is_silent p.manner.behaviour) p.device.number bytes m h

pub ordered_what : (m : Meaning) (d : Device) → (comes_of m d).order ≡ ordered_at (what_of m) d
ordered_what (meaning.Order c) d = refl
ordered_what meaning.Reply d = refl
ordered_what meaning.Nothing d = refl

pub answered_what : (m : Meaning) (d : Device) → (comes_of m d).answer ≡ answered_at (what_of m) d
answered_what (meaning.Order c) d = refl
answered_what meaning.Reply d = refl
answered_what meaning.Nothing d = refl

-- the seat of a player that heard it
pub seat_is : (s : Seat) (now longer : ℕ) (from : Address) (m : Meaning)
    → (record {
      player = after_hearing now longer m s.player;
      controller = ordered_by from (comes_of m s.player.device).order s.controller;
      said = s.said;
    }) ≡ seat_heard now longer from (what_of m) s
seat_is s now longer from (meaning.Order c) = refl
seat_is s now longer from meaning.Reply = refl
seat_is s now longer from meaning.Nothing = refl

-- ---- steps

-- it is lost
pub lost_step : (s : State) (now at : ℕ) (from : Address) (bytes : List ℕ) (seat : Seat) (given : List Given)
    (s_then : State) → slice_get s.seats at ≡ Some seat → is_lost s.loss s.chance ≡ true → given ≡ []
    → s_then ≡ drawn s → Steps s (heard_as now (input.Datagram at from) bytes) given s_then
lost_step s now at from bytes seat given s_then e lost g h = record {
  deed = loses;
  happens = subst (λ (o : Option Seat). IsArrival s at from bytes o loses) (sym e)
      (subst (λ (b : Bool). IsHearing b at seat from bytes loses) (sym lost) refl);
  gave = g;
  left = h;
}

-- it is heard
pub heard_step : (s : State) (now longer at : ℕ) (from : Address) (bytes : List ℕ) (seat seat_then : Seat)
    (what : Option Happening) (order : Option Order) (answer : Option Answer) (says : Bool) (chance : Chance)
    (given : List Given) (s_then : State)
    → slice_get s.seats at ≡ Some seat → is_lost s.loss s.chance ≡ false → longer ≡ longer_of s
    → chance ≡ next (next s.chance) → IsHeard seat.player bytes what
    → order ≡ ordered_at what seat.player.device → answer ≡ answered_at what seat.player.device
    → seat_then ≡ seat_heard now longer from what seat → says ≡ is_some order
    → IsGiven at from (answered_text seat.player.device.number answer) s.loss chance says given
    → s_then ≡ settled s at seat_then (after_answer chance (answered_text seat.player.device.number answer))
    → Steps s (heard_as now (input.Datagram at from) bytes) given s_then
heard_step s now longer at from bytes seat seat_then what order answer says chance given s_then e lost l c h o a t
    p g f =
    let d : Device = seat.player.device in
    let text : Option Answer → List ℕ = λ x. answered_text d.number x in
    let two : Chance = next (next s.chance) in
    record {
      deed = heard_at at seat from what;
      happens = subst (λ (x : Option Seat). IsArrival s at from bytes x (heard_at at seat from what)) (sym e)
          (subst (λ (b : Bool). IsHearing b at seat from bytes (heard_at at seat from what)) (sym lost)
          (what, h, refl));
      gave = subst (λ (x : Bool). IsGiven at from (text (answered_at what d)) s.loss two x given)
          (p ∙ ap (λ (x : Option Order). is_some x) o)
          (subst (λ (x : Option Answer). IsGiven at from (text x) s.loss two says given) a
          (subst (λ (x : Chance). IsGiven at from (text answer) s.loss x says given) c g));
      left = f
          ∙ (ap (λ (x : Seat). settled s at x (after_answer chance (text answer)))
          (t ∙ ap (λ (x : ℕ). seat_heard now x from what seat) l)
          ∙ (ap (λ (x : Chance). settled s at (seat_heard now (longer_of s) from what seat)
          (after_answer x (text answer))) c
          ∙ ap (λ (x : Option Answer). settled s at (seat_heard now (longer_of s) from what seat)
          (after_answer two (text x))) a));
    }

-- nobody sits there
pub no_seat_step : (s : State) (now at : ℕ) (from : Address) (bytes : List ℕ) (given : List Given)
    → length s.seats ≤ at → given ≡ [] → Steps s (heard_as now (input.Datagram at from) bytes) given s
no_seat_step s now at from bytes given past g = record {
  deed = idle;
  happens = subst (λ (o : Option Seat). IsArrival s at from bytes o idle) (sym (slice_get_past s.seats at past)) refl;
  gave = g;
  left = refl;
}

-- something is due
pub due_step : (s : State) (now at : ℕ) (sent : List ℕ) (due : Due) (seat seat_then : Seat) (answer : Option Answer)
    (says : Bool) (given : List Given) (s_then : State) (is : IsDue s.seats now at due) → seat ≡ is.seat
    → seat_then ≡ seat_passed now due seat → answer ≡ answer_passed due seat
    → sent ≡ answered_text seat.player.device.number answer → says ≡ is_said due answer
    → IsPrinted says (sent_given at seat.controller sent (goes_out s.loss s.chance sent)) given
    → s_then ≡ settled s at seat_then (after_answer s.chance sent)
    → Steps s (heard_as now input.Wake []) given s_then
due_step s now at sent due seat seat_then answer says given s_then is e t a b o g f =
    let text : Seat → List ℕ = λ x. answered_text x.player.device.number (answer_passed due x) in
    let same : sent ≡ text seat = b ∙ ap (answered_text seat.player.device.number) a in
    let given_for : Seat → Type 0 = λ x. IsPrinted (is_said due (answer_passed due x))
    (sent_given at x.controller (text x) (goes_out s.loss s.chance (text x))) given in
    let given_by : List ℕ → Type 0 =
    λ x. IsPrinted says (sent_given at seat.controller x (goes_out s.loss s.chance x)) given in
    record {
      deed = passes_at at is.seat due;
      happens = inr (at, due, is, refl);
      gave = subst given_for e
          (subst (λ (x : Bool). IsPrinted x (sent_given at seat.controller (text seat)
          (goes_out s.loss s.chance (text seat))) given) (o ∙ ap (is_said due) a)
          (subst given_by same g));
      left = f
          ∙ (ap (λ (x : Seat). settled s at x (after_answer s.chance sent)) t
          ∙ (ap (λ (x : List ℕ). settled s at (seat_passed now due seat) (after_answer s.chance x)) same
          ∙ ap (λ (x : Seat). settled s at (seat_passed now due x) (after_answer s.chance (text x))) e));
    }

-- nothing is due
pub idle_step : (s : State) (now : ℕ) (given : List Given) → NothingDue now s.seats → given ≡ []
    → Steps s (heard_as now input.Wake []) given s
idle_step s now given h g = record { deed = idle; happens = inl (refl, h); gave = g; left = refl }

-- no bytes come with a wake that could matter
pub wake_step : (s : State) (now : ℕ) (bytes : List ℕ) (given : List Given) (s_then : State)
    → Steps s (heard_as now input.Wake []) given s_then → Steps s (heard_as now input.Wake bytes) given s_then
wake_step s now bytes given s_then h =
    record { deed = h.deed; happens = h.happens; gave = h.gave; left = h.left }

pub refused_step : (s : State) (now at : ℕ) (bytes : List ℕ) (given : List Given) → given ≡ []
    → Steps s (heard_as now (input.Refused at) bytes) given s
refused_step s now at bytes given g = record { deed = idle; happens = refl; gave = g; left = refl }

-- ---- who sits there

pub sits_same : (seats : List Seat) (at : ℕ) (seat is : Seat) → slice_get seats at ≡ Some is
    → seat ≡ get_or seats at seat → seat ≡ is
sits_same seats at seat is e f =
    same_Some seat is (sym (slice_get_read seats (length seats) at seat refl (slice_get_within seats at is e) f) ∙ e)

pub sits_there : (seats : List Seat) (at : ℕ) (seat : Seat) → at < length seats → seat ≡ get_or seats at seat
    → slice_get seats at ≡ Some seat
sits_there seats at seat within e = slice_get_read seats (length seats) at seat refl within e

-- what holds of two clauses if there is no error
pub on_both : {X E : Type 0} (r : Result X E) {P Q R : Type 0} → OnOk r P → OnOk r Q → (P → Q → R) → OnOk r R
on_both (Ok x) p q f = f p q
on_both (Err e) p q f = tt
