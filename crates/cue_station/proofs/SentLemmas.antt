-- What is sent, and what that leaves open.
use Rattle.std.proofs.Common.{◌≡◌, refl, sym, ap, ◌∙◌, ℕ, Bool, true, false, not, ◌&&◌, ◌||◌, cond, List, [], ◌∷◌, ◌++◌}
use Rattle.std.proofs.Common.{Option, None, Some, is_some, filter, IsTrue, IsSome, inl, inr, ◌⊎◌, ⊎_elim}
use Rattle.cue_show.proofs.TestLemmas.{both, cases, or_left, or_right}
use Rattle.cue_desk.specs.declared.orders.DeskCommand.{DeskCommand}
use Rattle.cue_desk.specs.declared.orders.DeskCommand.TheVariants as order
use Rattle.cue_view.specs.declared.button.Button.{Button}
use Rattle.cue_view.specs.declared.button.Button.TheVariants as button
use Rattle.cue_station.specs.declared.heard.Heard.TheVariants as heard
use Rattle.cue_station.specs.declared.heard.Send.{Send}
use Rattle.cue_station.specs.declared.lighting.Footing.{Footing}
use Rattle.cue_station.specs.declared.memory.Pending.{Pending}
use Rattle.cue_station.specs.declared.memory.Reading.{Reading}
use Rattle.cue_station.specs.Asking.{first_of, fresh, if_open, is_open, is_press_sent, newest_in, sent_press}
use Rattle.cue_station.specs.Lighting.{is_number, may_by}
use Rattle.cue_station.specs.Memory.{is_beside, is_cancel, open_in}
use Rattle.cue_station.specs.Noting.{beside_after, press_after, send_by}
use Rattle.cue_station.specs.Pressing.{order_of}
use Rattle.cue_station.specs.Reading.{is_status}
use Rattle.cue_station.proofs.OpenLemmas.{first_two, leaves}

-- ---- what is sent for a press

-- the second of tests that pass
first_three : (x y z w : Bool) → IsTrue ((x && (y && z)) && w) → IsTrue y
first_three x y z w h = (both y z (both x (y && z) (both (x && (y && z)) w h).0).1).0

some_number : (q : ℕ) (o : Option ℕ) → IsTrue (is_number q o) → IsTrue (is_some o)
some_number q None h = (cc)
some_number q (Some p) h = refl

-- a CANCEL of what is chosen, or of an open GO
cancel_leaves : (f : Footing) (q : ℕ) → IsTrue ((f.is_calm && is_number q f.chosen) || is_number q f.going)
    → IsTrue (f.is_calm || is_some f.going)
cancel_leaves f q h =
    let calm = f.is_calm && is_number q f.chosen in
    ⊎_elim
    (λ (e : calm ≡ true). or_left f.is_calm (is_some f.going) (both f.is_calm (is_number q f.chosen) e).0)
    (λ (e : calm ≡ false). or_right f.is_calm (is_some f.going)
    (some_number q f.going (ap (λ b. b || is_number q f.going) (sym e) ∙ h)))
    (cases calm)

-- a button that sends something leaves at most one press open
pub may_leaves : (f : Footing) (since : ℕ → Option ℕ) (r : Option Reading) (b : Button) → IsSome (order_of b)
    → IsTrue (may_by f since r b) → IsTrue (leaves f b)
may_leaves f since None b o h = (cc)
may_leaves f since (Some r) (button.Go c q) o h = (first_three f.stands f.is_quiet _ _ h)
may_leaves f since (Some r) (button.Cancel c q) o h =
    cancel_leaves f q (both f.stands _ (both (f.stands && ((f.is_calm && is_number q f.chosen) || is_number q f.going)) _ h).0).1
may_leaves f since (Some r) (button.Standby c) o h = (both f.stands f.is_quiet (both (f.stands && f.is_quiet) _ h).0).1
may_leaves f since (Some r) (button.Release q d) o h =
    (both f.stands f.is_quiet (both (f.stands && f.is_quiet) _ h).0).1
may_leaves f since (Some r) (button.MoveTo c) o h = (both f.stands f.is_quiet (both (f.stands && f.is_quiet) _ h).0).1
may_leaves f since (Some r) (button.Choose q) o h = (cc)
may_leaves f since (Some r) (button.Seen q) o h = (cc)

the_order : (a b : DeskCommand) → Some a ≡ Some b → b ≡ a
the_order a b h = cc

-- no button asks for the status
pub not_status : (b : Button) (o : DeskCommand) → order_of b ≡ Some o → is_status o ≡ false
not_status (button.Standby c) o h = ap is_status (the_order _ o h)
not_status (button.Go c q) o h = ap is_status (the_order _ o h)
not_status (button.Cancel c q) o h = ap is_status (the_order _ o h)
not_status (button.Release q d) o h = ap is_status (the_order _ o h)
not_status (button.MoveTo c) o h = ap is_status (the_order _ o h)
not_status (button.Choose q) o h = (cc)
not_status (button.Seen q) o h = (cc)

-- what is sent in a turn, where a press is heeded or not
pub record IsSending (heeded : Bool) (b : Button) (ask : ℕ) (send : Option Send) : Type 0 where
  pub press : is_press_sent send ≡ (heeded && is_some (order_of b))
  pub message : (s : Send) → send ≡ Some s → (s.order ≡ order.Status) ⊎ ((heeded ≡ true) × (order_of b ≡ Some s.order))
  pub own : (s : Send) → send ≡ Some s → s.ask ≡ ask

same_send : (a b : Send) → Some a ≡ Some b → b ≡ a
same_send a b h = cc

pub sends_status : (due : Bool) (ask : ℕ) (s : Send) → send_by None due ask ≡ Some s
    → s ≡ record { ask = ask; order = order.Status }
sends_status true ask s h = same_send _ s h
sends_status false ask s h = (cc)

status_sent : (due : Bool) (ask : ℕ) → is_press_sent (send_by None due ask) ≡ false
status_sent true ask = refl
status_sent false ask = refl

sending_none : (heeded due : Bool) (b : Button) (ask : ℕ) → (heeded && is_some (order_of b)) ≡ false
    → IsSending heeded b ask (send_by None due ask)
sending_none heeded due b ask none =
    record {
      press = status_sent due ask ∙ sym none;
      message = λ s h. inl (ap (λ (x : Send). x.order) (sends_status due ask s h));
      own = λ s h. ap (λ (x : Send). x.ask) (sends_status due ask s h);
    }

sending_some : (due : Bool) (b : Button) (ask : ℕ) (o : DeskCommand) → order_of b ≡ Some o
    → IsSending true b ask (Some (record { ask = ask; order = o }))
sending_some due b ask o h =
    record {
      press = ap not (not_status b o h) ∙ sym (ap is_some h);
      message = λ s k. inr (refl, h ∙ ap (λ (x : Send). Some x.order) (sym (same_send _ s k)));
      own = λ s k. ap (λ (x : Send). x.ask) (same_send _ s k);
    }

sending_order : (due : Bool) (b : Button) (ask : ℕ) (o : Option DeskCommand) → order_of b ≡ o
    → IsSending true b ask (send_by o due ask)
sending_order due b ask None h = sending_none true due b ask (ap is_some h)
sending_order due b ask (Some o) h = sending_some due b ask o h

-- the message of a turn in which a button is pressed
pub sending : (heeded due : Bool) (b : Button) (ask : ℕ)
    → IsSending heeded b ask (send_by (cond heeded (order_of b) None) due ask)
sending true due b ask = sending_order due b ask (order_of b) refl
sending false due b ask = sending_none false due b ask refl

-- ---- what is open then

-- what is kept once a press was sent: that of before beside it, if that is open
pub record KeepsOpen (r : Option Reading) (sent : List Pending) (press beside : Option Pending) (all : List Pending)
    : Type 0 where
  pub opened : open_in r (press_after sent press) (beside_after r sent press beside) ≡ filter (is_open r) (sent ++ all)
  pub beside_is : is_beside (press_after sent press) (beside_after r sent press beside) ≡ true

pub keeps_none : (r : Option Reading) (press beside : Option Pending) (all : List Pending)
    → open_in r press beside ≡ filter (is_open r) all → is_beside press beside ≡ true
    → KeepsOpen r [] press beside all
keeps_none r press beside all e k = record { opened = e; beside_is = k }

final_beside : (p : Pending) (o : Option Pending) → is_cancel p.button ≡ true → is_beside (Some p) o ≡ true
final_beside p None h = refl
final_beside p (Some y) h = h

none_beside : (p : Pending) (one other : Option Pending) → one ≡ None → other ≡ None
    → is_beside (Some p) (first_of one other) ≡ true
none_beside p one other e k =
    ap (λ o. is_beside (Some p) (first_of o other)) e ∙ ap (λ o. is_beside (Some p) o) k

keeps_one : (r : Option Reading) (at ask before : ℕ) (b : Button) (press beside : Option Pending) (all : List Pending)
    → open_in r press beside ≡ filter (is_open r) all
    → (if_open r press ≡ None) ⊎ (beside ≡ None)
    → (is_cancel b ≡ true) ⊎ ((if_open r press ≡ None) × (beside ≡ None))
    → KeepsOpen r (fresh at ask before b ∷ []) press beside all
keeps_one r at ask before b press beside all e one final =
    record {
      opened = ap (λ v. fresh at ask before b ∷ v) (first_two (if_open r press) beside one ∙ e);
      beside_is = ⊎_elim
          (λ (k : is_cancel b ≡ true). final_beside (fresh at ask before b) (first_of (if_open r press) beside) k)
          (λ (k : (if_open r press ≡ None) × (beside ≡ None)).
          none_beside (fresh at ask before b) (if_open r press) beside k.0 k.1)
          final;
    }

-- the same of a message, of which it is known whether it is that of a press
keeps_sent : (r : Option Reading) (at : ℕ) (b : Button) (view : ℕ) (s : Send) (t : Bool) → is_press_sent (Some s) ≡ t
    → (press beside : Option Pending) (all : List Pending)
    → open_in r press beside ≡ filter (is_open r) all → is_beside press beside ≡ true
    → (t ≡ true → (if_open r press ≡ None) ⊎ (beside ≡ None))
    → (t ≡ true → (is_cancel b ≡ true) ⊎ ((if_open r press ≡ None) × (beside ≡ None)))
    → KeepsOpen r (cond t (fresh at s.ask (newest_in r) b ∷ []) []) press beside all
keeps_sent r at b view s true was press beside all e k one final =
    keeps_one r at s.ask (newest_in r) b press beside all e (one refl) (final refl)
keeps_sent r at b view s false was press beside all e k one final = keeps_none r press beside all e k

pub keeps_pressed : (r : Option Reading) (at : ℕ) (b : Button) (view : ℕ) (send : Option Send)
    (press beside : Option Pending) (all : List Pending)
    → open_in r press beside ≡ filter (is_open r) all → is_beside press beside ≡ true
    → (is_press_sent send ≡ true → (if_open r press ≡ None) ⊎ (beside ≡ None))
    → (is_press_sent send ≡ true → (is_cancel b ≡ true) ⊎ ((if_open r press ≡ None) × (beside ≡ None)))
    → KeepsOpen r (sent_press (heard.Pressed view b) at r send) press beside all
keeps_pressed r at b view None press beside all e k one final = keeps_none r press beside all e k
keeps_pressed r at b view (Some s) press beside all e k one final =
    keeps_sent r at b view s (is_press_sent (Some s)) refl press beside all e k one final
