-- How a device stands after the turns of a rehearsal.
use Rattle.std.proofs.Common.{◌≡◌, ℕ, Bool, true, false, cond, eqb, List, [], ◌∷◌, ◌++◌}
use Rattle.std.proofs.Common.{length, map, Option, Some, None, refl, sym, ap, ◌∙◌, subst, append_assoc}
use Rattle.std.proofs.Common.{append-nil}
use Rattle.std.proofs.Common.{⊎_elim}
use Rattle.std.proofs.Common.{true≢false}
use Rattle.std.specs.Prelude.{is_some, slice_get, slice_set, ⊤}
use Rattle.std.specs.List.{AllByRecursion}
use Rattle.std.proofs.lemmas.Bool.{eqb-true, eqb-false}
use Rattle.std.proofs.lemmas.Option.{none-some, same_Some}
use Rattle.cue_machine.specs.declared.address.Address.{Address}
use Rattle.cue_machine.specs.declared.ears.Input.{Input}
use Rattle.cue_machine.specs.declared.ears.Input.TheVariants as input
use Rattle.cue_machine.specs.declared.post.Output.{Output}
use Rattle.cue_machine.specs.Living.{AreTurns, IsTurn, Turn, after_losses}
use Rattle.cue_machine.specs.Posting.{Posted}
use Rattle.cue_device.specs.declared.asked.Command.{Command}
use Rattle.cue_device.specs.declared.hearing.Device.{Device}
use Rattle.cue_device.specs.declared.words.Order.{Order}
use Rattle.cue_device.specs.Datagrams.{IsFor}
use Rattle.cue_device.specs.Hearing.{after_told, place, seq_of, what_comes_of}
use Rattle.cue_device.specs.Histories.{Happening, after, device_after, hears, hears_reply, latest, repeats, restarts}
use Rattle.cue_device.specs.Histories.{tells}
use Rattle.cue_rehearsal.specs.declared.player.Work.{Work}
use Rattle.cue_rehearsal.specs.Playing.{begun, due, is_silent, told_by, work_after}
use Rattle.cue_rehearsal_machine.specs.declared.machine.RehearsalMachine.{RehearsalMachine}
use Rattle.cue_rehearsal_machine.specs.declared.seat.Due.{Due}
use Rattle.cue_rehearsal_machine.specs.declared.seat.Due.TheVariants.{Ends, Repeats}
use Rattle.cue_rehearsal_machine.specs.declared.seat.Role.{Role}
use Rattle.cue_rehearsal_machine.specs.declared.seat.Seat.{Seat}
use Rattle.cue_rehearsal_machine.specs.Deeds.{Deed, IsArrival, IsDeedBy, IsHearing, State, happening_at, heard_at, idle}
use Rattle.cue_rehearsal_machine.specs.Deeds.{loses, passes_at, state_of}
use Rattle.cue_rehearsal.specs.Drawing.{is_lost}
use Rattle.cue_rehearsal_machine.specs.Laws.{IsFresh, IsNew, Ordered, deeds_of, device_of, history_from}
use Rattle.cue_rehearsal_machine.specs.Lives.{rehearsal_machine}
use Rattle.cue_rehearsal_machine.specs.Seats.{IsHeard, IsHeardBy, due_of, due_or, ordered_by, repeats_of}
use Rattle.cue_rehearsal_machine.specs.Seats.{seat_heard, seat_in, seat_passed, what_passes}
use Rattle.cue_rehearsal_machine.specs.Steps.{after_loss, left_after, longer_of}
use Rattle.cue_rehearsal_machine.proofs.SeatLemmas.{all_at, set_length, set_other, set_same}
use Rattle.cue_rehearsal_machine.proofs.TableLemmas.{doing_heard, ended, ended_doing, number_history}
use Rattle.cue_rehearsal_machine.proofs.TableLemmas.{order_in, unheard_heard, work_heard}

-- ---- who ordered

-- it was so before one turn more, too
ordered_more : (at n : ℕ) (from : Address) (ts : List Turn) (t : Turn) → Ordered at n from ts
    → Ordered at n from (ts ++ t ∷ [])
ordered_more at n from ts t h = record {
  before = h.before;
  turn = h.turn;
  after = h.after ++ t ∷ [];
  all = ap (λ (xs : List Turn). xs ++ t ∷ []) h.all ∙ append_assoc h.before (h.turn ∷ h.after) (t ∷ []);
  came = h.came;
  command = h.command;
  order = h.order;
}

pub ordered_now : (at n : ℕ) (from : Address) (ts : List Turn) (t : Turn) (c : Command)
    → t.heard.input ≡ input.Datagram at from → IsFor n t.heard.bytes c → Ordered at n from (ts ++ t ∷ [])
ordered_now at n from ts t c e f =
    record { before = ts; turn = t; after = []; all = refl; came = e; command = c; order = f }

working_heard : (P : Address → Type 0) (begins : Order → Work) (o : Option Order) (w : Option Work)
    (from before : Address)
    → P from → (is_some w ≡ true → P before) → is_some (work_after begins o w) ≡ true → P (ordered_by from o before)
working_heard P begins None w from before now then e = then e
working_heard P begins (Some order) w from before now then e = now

either_heard : (P : Address → Type 0) (o : Option Order) (from before : Address)
    → P from → P before → P (ordered_by from o before)
either_heard P None from before now then = then
either_heard P (Some order) from before now then = now

-- ---- how a device stands

-- it is no restart
abbrev pub NoRestart : Happening → Type 0
NoRestart (hears c) = ⊤
NoRestart (tells t) = ⊤
NoRestart repeats = ⊤
NoRestart hears_reply = ⊤
NoRestart (restarts n) = ⊥

-- how the device of a place stands after these turns, with this history
pub record Stands (first : Seat) (at : ℕ) (seat : Seat) (hs : List Happening) (ts : List Turn) : Type 0 where
  pub device : seat.player.device ≡ device_after (device_of first) hs
  pub doing : order_in seat.player.work ≡ seat.player.device.doing
  pub working : is_some seat.player.work ≡ true → Ordered at first.player.device.number seat.controller ts
  pub unheard : seat.player.device.unheard ≡ true → Ordered at first.player.device.number seat.controller ts
  pub free : AllByRecursion NoRestart hs

pub number_now : (first : Seat) (at : ℕ) (seat : Seat) (hs : List Happening) (ts : List Turn)
    → Stands first at seat hs ts → seat.player.device.number ≡ first.player.device.number
number_now first at seat hs ts st =
    ap (λ (d : Device). d.number) st.device ∙ number_history (device_of first) hs

-- nothing happened to it
stands_on : (first : Seat) (at : ℕ) (seat : Seat) (hs : List Happening) (ts : List Turn) (t : Turn)
    → Stands first at seat hs ts → Stands first at seat hs (ts ++ t ∷ [])
stands_on first at seat hs ts t st = record {
  device = st.device;
  doing = st.doing;
  working = λ e. ordered_more at first.player.device.number seat.controller ts t (st.working e);
  unheard = λ e. ordered_more at first.player.device.number seat.controller ts t (st.unheard e);
  free = st.free;
}

-- it heard an order
stands_ordered : (first : Seat) (at : ℕ) (seat : Seat) (hs : List Happening) (ts : List Turn) (t : Turn)
    (now longer : ℕ) (from : Address) (c : Command)
    → Stands first at seat hs ts → t.heard.input ≡ input.Datagram at from
    → IsFor first.player.device.number t.heard.bytes c
    → Stands first at (seat_heard now longer from (Some (hears c)) seat) (hears c ∷ hs) (ts ++ t ∷ [])
stands_ordered first at seat hs ts t now longer from c st e f =
    let d : Device = seat.player.device in
    let o : Option Order = (what_comes_of c d).order in
    let P : Address → Type 0 = λ x. Ordered at first.player.device.number x (ts ++ t ∷ []) in
    let by_now : P from = ordered_now at first.player.device.number from ts t c e f in
    record {
      device = ap (after (hears c)) st.device;
      doing = work_heard seat.player.manner now longer o seat.player.work d.doing st.doing
          ∙ sym (doing_heard (place d (seq_of c)) c d);
      working = λ w. working_heard P (begun seat.player.manner now longer) o seat.player.work from seat.controller
          by_now (λ x. ordered_more at first.player.device.number seat.controller ts t (st.working x)) w;
      unheard = λ u. either_heard P o from seat.controller by_now
          (ordered_more at first.player.device.number seat.controller ts t
          (st.unheard (unheard_heard (place d (seq_of c)) c d u)));
      free = (tt, st.free);
    }

-- it heard a reply
stands_replied : (first : Seat) (at : ℕ) (seat : Seat) (hs : List Happening) (ts : List Turn) (t : Turn)
    (now longer : ℕ) (from : Address) → Stands first at seat hs ts
    → Stands first at (seat_heard now longer from (Some hears_reply) seat) (hears_reply ∷ hs) (ts ++ t ∷ [])
stands_replied first at seat hs ts t now longer from st = record {
  device = ap (after hears_reply) st.device;
  doing = st.doing;
  working = λ e. ordered_more at first.player.device.number seat.controller ts t (st.working e);
  unheard = λ e. absurd (true≢false (sym e));
  free = (tt, st.free);
}

stands_meant : (first : Seat) (at : ℕ) (seat : Seat) (hs : List Happening) (ts : List Turn) (t : Turn)
    (now longer : ℕ) (from : Address) (silent : Bool) (what : Option Happening)
    → Stands first at seat hs ts → t.heard.input ≡ input.Datagram at from
    → IsHeardBy silent first.player.device.number t.heard.bytes what
    → Stands first at (seat_heard now longer from what seat) (latest what hs) (ts ++ t ∷ [])
stands_meant first at seat hs ts t now longer from silent None st e f = stands_on first at seat hs ts t st
stands_meant first at seat hs ts t now longer from true (Some h) st e f = absurd (none-some h (sym f))
stands_meant first at seat hs ts t now longer from false (Some (hears c)) st e f =
    stands_ordered first at seat hs ts t now longer from c st e f
stands_meant first at seat hs ts t now longer from false (Some hears_reply) st e f =
    stands_replied first at seat hs ts t now longer from st
stands_meant first at seat hs ts t now longer from false (Some (tells x)) st e f = absurd f
stands_meant first at seat hs ts t now longer from false (Some repeats) st e f = absurd f
stands_meant first at seat hs ts t now longer from false (Some (restarts n)) st e f = absurd f

stands_heard : (first : Seat) (at : ℕ) (seat : Seat) (hs : List Happening) (ts : List Turn) (t : Turn)
    (now longer : ℕ) (from : Address) (what : Option Happening)
    → Stands first at seat hs ts → t.heard.input ≡ input.Datagram at from → IsHeard seat.player t.heard.bytes what
    → Stands first at (seat_heard now longer from what seat) (latest what hs) (ts ++ t ∷ [])
stands_heard first at seat hs ts t now longer from what st e f =
    stands_meant first at seat hs ts t now longer from (is_silent seat.player.manner.behaviour) what st e
    (subst (λ (n : ℕ). IsHeardBy (is_silent seat.player.manner.behaviour) n t.heard.bytes what)
    (number_now first at seat hs ts st) f)

-- ---- time

abbrev order_of : Due → Order → Order
order_of (Ends o) other = o
order_of Repeats other = other

abbrev is_end : Due → Bool
is_end (Ends o) = true
is_end Repeats = false

no_end : (b : Bool) (o : Order) → cond b (Some Repeats) None ≡ Some (Ends o) → ⊥
no_end true o e = true≢false (sym (ap is_end (same_Some Repeats (Ends o) e)))
no_end false o e = none-some (Ends o) e

end_due : (b : Bool) (w : Work) (s : Seat) (now : ℕ) (o : Order)
    → due_or (cond b (Some w.order) None) (repeats_of now s) ≡ Some (Ends o) → w.order ≡ o
end_due true w s now o e = ap (λ (x : Due). order_of x o) (same_Some (Ends w.order) (Ends o) e)
end_due false w s now o e = absurd (no_end _ o e)

-- an end that is due is that of the order that its machine does
work_due : (w : Option Work) (s : Seat) (now : ℕ) (o : Order)
    → due_or (due now w) (repeats_of now s) ≡ Some (Ends o) → order_in w ≡ Some o
work_due None s now o e = absurd (no_end _ o e)
work_due (Some w) s now o e = ap Some (end_due _ w s now o e)

pub doing_due : (first : Seat) (at : ℕ) (seat : Seat) (hs : List Happening) (ts : List Turn) (now : ℕ) (o : Order)
    → Stands first at seat hs ts → due_of now seat ≡ Some (Ends o) → seat.player.device.doing ≡ Some o
doing_due first at seat hs ts now o st e = sym st.doing ∙ work_due seat.player.work seat now o e

works : (w : Option Work) (o : Order) → order_in w ≡ Some o → is_some w ≡ true
works None o e = absurd (none-some o e)
works (Some w) o e = refl

pub ordered_due : (first : Seat) (at : ℕ) (seat : Seat) (hs : List Happening) (ts : List Turn) (t : Turn) (now : ℕ)
    (o : Order) → Stands first at seat hs ts → due_of now seat ≡ Some (Ends o)
    → Ordered at first.player.device.number seat.controller (ts ++ t ∷ [])
ordered_due first at seat hs ts t now o st e =
    ordered_more at first.player.device.number seat.controller ts t
    (st.working (works seat.player.work o (work_due seat.player.work seat now o e)))

pub ordered_unheard : (first : Seat) (at : ℕ) (seat : Seat) (hs : List Happening) (ts : List Turn) (t : Turn)
    → Stands first at seat hs ts → seat.player.device.unheard ≡ true
    → Ordered at first.player.device.number seat.controller (ts ++ t ∷ [])
ordered_unheard first at seat hs ts t st e =
    ordered_more at first.player.device.number seat.controller ts t (st.unheard e)

stands_passed : (first : Seat) (at : ℕ) (seat : Seat) (hs : List Happening) (ts : List Turn) (t : Turn) (now : ℕ)
    (due : Due) → Stands first at seat hs ts → due_of now seat ≡ Some due
    → Stands first at (seat_passed now due seat) (what_passes due seat ∷ hs) (ts ++ t ∷ [])
stands_passed first at seat hs ts t now (Ends o) st e =
    let doing = doing_due first at seat hs ts now o st e in
    record {
      device = ended seat.player o doing ∙ ap (after_told (told_by o seat.player)) st.device;
      doing = sym (ended_doing seat.player o doing);
      working = λ x. absurd (true≢false (sym x));
      unheard = λ x. ordered_due first at seat hs ts t now o st e;
      free = (tt, st.free);
    }
stands_passed first at seat hs ts t now Repeats st e = record {
  device = st.device;
  doing = st.doing;
  working = λ x. ordered_more at first.player.device.number seat.controller ts t (st.working x);
  unheard = λ x. ordered_more at first.player.device.number seat.controller ts t (st.unheard x);
  free = (tt, st.free);
}

-- ---- what a deed says

-- who sits where something happens, and why it does
abbrev pub Facts : State → ℕ → Input → List ℕ → Deed → Type 0
Facts s now i bytes idle = ⊤
Facts s now i bytes loses = ⊤
Facts s now i bytes (heard_at at seat from what) =
    (i ≡ input.Datagram at from) × (slice_get s.seats at ≡ Some seat) × IsHeard seat.player bytes what
Facts s now i bytes (passes_at at seat due) = (slice_get s.seats at ≡ Some seat) × (due_of now seat ≡ Some due)

facts_heard : (s : State) (now at : ℕ) (from : Address) (bytes : List ℕ) (seat : Seat) (lost : Bool) (d : Deed)
    → slice_get s.seats at ≡ Some seat → IsHearing lost at seat from bytes d
    → Facts s now (input.Datagram at from) bytes d
facts_heard s now at from bytes seat true d e h = subst (Facts s now (input.Datagram at from) bytes) (sym h) tt
facts_heard s now at from bytes seat false d e h =
    subst (Facts s now (input.Datagram at from) bytes) (sym h.2) (refl, e, h.1)

facts_arrived : (s : State) (now at : ℕ) (from : Address) (bytes : List ℕ) (o : Option Seat) (d : Deed)
    → slice_get s.seats at ≡ o → IsArrival s at from bytes o d → Facts s now (input.Datagram at from) bytes d
facts_arrived s now at from bytes None d e h = subst (Facts s now (input.Datagram at from) bytes) (sym h) tt
facts_arrived s now at from bytes (Some seat) d e h =
    facts_heard s now at from bytes seat (is_lost s.loss s.chance) d e h

pub facts : (s : State) (now : ℕ) (i : Input) (bytes : List ℕ) (d : Deed) → IsDeedBy s now i bytes d
    → Facts s now i bytes d
facts s now (input.Datagram at from) bytes d h = facts_arrived s now at from bytes (slice_get s.seats at) d refl h
facts s now (input.Refused at) bytes d h = subst (Facts s now (input.Refused at) bytes) (sym h) tt
facts s now input.Wake bytes d h =
    ⊎_elim (λ x. subst (Facts s now input.Wake bytes) (sym x.0) tt)
    (λ x. subst (Facts s now input.Wake bytes) (sym x.3) (x.2.sits, x.2.is_due)) h

-- ---- turns

-- the device of a place is among these, and stands so
abbrev Sits : Seat → ℕ → List Seat → List Happening → List Turn → Type 0
Sits first at seats hs ts = (seat : Seat) × (slice_get seats at ≡ Some seat) × Stands first at seat hs ts

-- something happened at this place or at another one
at_place : (first : Seat) (at k : ℕ) (s : List Seat) (seat seat_then : Seat) (what : Option Happening)
    (hs : List Happening) (ts : List Turn) (t : Turn) (b : Bool) → eqb k at ≡ b
    → Sits first at s hs ts → slice_get s k ≡ Some seat
    → (Stands first k seat hs ts → Stands first k seat_then (latest what hs) (ts ++ t ∷ []))
    → Sits first at (slice_set s k seat_then) (latest (cond b what None) hs) (ts ++ t ∷ [])
at_place first at k s seat seat_then what hs ts t true e sits there f =
    let same : k ≡ at = eqb-true k at e in
    let found : sits.0 ≡ seat = same_Some sits.0 seat (sym sits.1 ∙ (ap (slice_get s) (sym same) ∙ there)) in
    let stood : Stands first k seat hs ts =
    subst (λ (x : ℕ). Stands first x seat hs ts) (sym same)
    (subst (λ (x : Seat). Stands first at x hs ts) found sits.2) in
    subst (λ (x : ℕ). Sits first x (slice_set s k seat_then) (latest what hs) (ts ++ t ∷ [])) same
    (seat_then, set_same s k seat seat_then there, f stood)
at_place first at k s seat seat_then what hs ts t false e sits there f =
    (sits.0, set_other s k at seat_then (eqb-false k at e) ∙ sits.1, stands_on first at sits.0 hs ts t sits.2)

sits_then : (first : Seat) (at : ℕ) (s : State) (t : Turn) (d : Deed) (hs : List Happening) (ts : List Turn)
    → Sits first at s.seats hs ts → Facts s t.heard.now t.heard.input t.heard.bytes d
    → Sits first at (left_after s t.heard.now d).seats (latest (happening_at at d) hs) (ts ++ t ∷ [])
sits_then first at s t idle hs ts sits f = (sits.0, sits.1, stands_on first at sits.0 hs ts t sits.2)
sits_then first at s t loses hs ts sits f = (sits.0, sits.1, stands_on first at sits.0 hs ts t sits.2)
sits_then first at s t (heard_at k seat from what) hs ts sits f =
    at_place first at k s.seats seat (seat_heard t.heard.now (longer_of s) from what seat) what hs ts t (eqb k at) refl
    sits f.1 (λ st. stands_heard first k seat hs ts t t.heard.now (longer_of s) from what st f.0 f.2)
sits_then first at s t (passes_at k seat due) hs ts sits f =
    at_place first at k s.seats seat (seat_passed t.heard.now due seat) (Some (what_passes due seat)) hs ts t (eqb k at)
    refl sits f.0 (λ st. stands_passed first k seat hs ts t t.heard.now due st f.1)

-- what is lost changes no device
loss_seats : (b : Bool) (m : RehearsalMachine) (o : Output)
    → (cond b (after_loss m o) m).seats.items ≡ m.seats.items
loss_seats true m o = refl
loss_seats false m o = refl

losses_seats : (ps : List Posted) (m : RehearsalMachine)
    → (after_losses after_loss ps m).seats.items ≡ m.seats.items
losses_seats [] m = refl
losses_seats (p ∷ ps) m = losses_seats ps _ ∙ loss_seats p.lost m p.given.output

-- the devices after a turn
pub seats_then : (m : RehearsalMachine) (t : Turn) (m_then : RehearsalMachine) (h : IsTurn rehearsal_machine m t m_then)
    → m_then.seats.items ≡ (left_after (state_of m) t.heard.now h.stepped.deed).seats
seats_then m t m_then h =
    ap (λ (x : RehearsalMachine). x.seats.items) h.after
    ∙ (losses_seats t.posted h.mid ∙ ap (λ (s : State). s.seats) h.stepped.left)

sits_turn : (first : Seat) (at : ℕ) (m : RehearsalMachine) (t : Turn) (m_then : RehearsalMachine)
    (h : IsTurn rehearsal_machine m t m_then) (hs : List Happening) (ts : List Turn)
    → Sits first at m.seats.items hs ts
    → Sits first at m_then.seats.items (latest (happening_at at h.stepped.deed) hs) (ts ++ t ∷ [])
sits_turn first at m t m_then h hs ts sits =
    subst (λ (s : List Seat). Sits first at s (latest (happening_at at h.stepped.deed) hs) (ts ++ t ∷ []))
    (sym (seats_then m t m_then h))
    (sits_then first at (state_of m) t h.stepped.deed hs ts sits
    (facts (state_of m) t.heard.now t.heard.input t.heard.bytes h.stepped.deed h.stepped.happens))

sits_turns : (first : Seat) (at : ℕ) (m : RehearsalMachine) (ts : List Turn) (m_then : RehearsalMachine)
    (h : AreTurns rehearsal_machine m ts m_then) (hs : List Happening) (before : List Turn)
    → Sits first at m.seats.items hs before
    → Sits first at m_then.seats.items (history_from at hs (deeds_of m ts m_then h)) (before ++ ts)
sits_turns first at m [] m_then h hs before sits =
    subst (λ (x : List Turn). Sits first at m_then.seats.items hs x) (sym (append-nil before))
    (subst (λ (x : RehearsalMachine). Sits first at x.seats.items hs before) (sym h) sits)
sits_turns first at m (t ∷ ts) m_then h hs before sits =
    let deed : Deed = h.1.stepped.deed in
    let then : List Happening = history_from at (latest (happening_at at deed) hs) (deeds_of h.0 ts m_then h.2) in
    subst (λ (x : List Turn). Sits first at m_then.seats.items then x)
    (append_assoc before (t ∷ []) ts)
    (sits_turns first at h.0 ts m_then h.2 (latest (happening_at at deed) hs) (before ++ t ∷ [])
    (sits_turn first at m t h.0 h.1 hs before sits))

-- ---- the beginning

pub all_fresh : (roles : List Role) → AllByRecursion IsFresh (map seat_in roles)
all_fresh [] = tt
all_fresh (r ∷ rs) = (refl, all_fresh rs)

stands_first : (first : Seat) (at : ℕ) → IsFresh first → Stands first at first [] []
stands_first first at fresh =
    subst (λ (x : Seat). Stands first at x [] []) (sym fresh)
    (record {
      device = refl;
      doing = refl;
      working = λ e. absurd (true≢false (sym e));
      unheard = λ e. absurd (true≢false (sym e));
      free = tt;
    })

-- how the device of a place stands after the turns of a rehearsal
pub sits : (first : Seat) (at : ℕ) (m : RehearsalMachine) (ts : List Turn) (m_then : RehearsalMachine) → IsNew m
    → (h : AreTurns rehearsal_machine m ts m_then) → slice_get m.seats.items at ≡ Some first
    → (seat : Seat) × (slice_get m_then.seats.items at ≡ Some seat)
    × Stands first at seat (history_from at [] (deeds_of m ts m_then h)) ts
sits first at m ts m_then new h e =
    sits_turns first at m ts m_then h [] []
    (first, e, stands_first first at (all_at IsFresh m.seats.items at first new e))

-- ---- no device comes or goes

settled_length : (s : State) (now : ℕ) (d : Deed) → length (left_after s now d).seats ≡ length s.seats
settled_length s now idle = refl
settled_length s now loses = refl
settled_length s now (heard_at k seat from what) = set_length s.seats k _
settled_length s now (passes_at k seat due) = set_length s.seats k _

pub same_length : (m : RehearsalMachine) (ts : List Turn) (m_then : RehearsalMachine)
    → AreTurns rehearsal_machine m ts m_then → length m_then.seats.items ≡ length m.seats.items
same_length m [] m_then h = ap (λ (x : RehearsalMachine). length x.seats.items) h
same_length m (t ∷ ts) m_then h =
    same_length h.0 ts m_then h.2
    ∙ (ap length (seats_then m t h.0 h.1) ∙ settled_length (state_of m) t.heard.now h.1.stepped.deed)
