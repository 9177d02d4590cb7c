-- When a load wakes.
use Rattle.std.proofs.Common.{◌≡◌, ℕ, ◌+◌, ◌⊎◌, Bool, true, false, cond, List, [], ◌∷◌, ◌++◌, length, Option}
use Rattle.std.proofs.Common.{Some, None}
use Rattle.std.proofs.Common.{refl, sym, ap, ◌∙◌, arith, append_assoc, inl, inr}
use Rattle.std.specs.Prelude.{nat_lt, slice_get}
use Rattle.std.proofs.Math.Nat.{min-le_left}
use Rattle.std.proofs.lemmas.Bool.{true≢false}
use Rattle.cue_machine.specs.Living.{AreTurns, Turn}
use Rattle.cue_machine.specs.Posting.{Posted}
use Rattle.cue_load_machine.specs.declared.asks.Ask.{Ask}
use Rattle.cue_load_machine.specs.declared.asks.Form.{Form}
use Rattle.cue_load_machine.specs.declared.asks.Form.TheVariants as form
use Rattle.cue_load_machine.specs.declared.machine.LoadMachine.{LoadMachine}
use Rattle.cue_load_machine.specs.declared.stage.LoadEnd.TheVariants as end
use Rattle.cue_load_machine.specs.declared.stage.Stage.{Stage}
use Rattle.cue_load_machine.specs.declared.stage.Stage.TheVariants as stage
use Rattle.cue_load_machine.specs.declared.stage.Try.{Try}
use Rattle.cue_load_machine.specs.declared.stage.Waits.{Waits}
use Rattle.cue_loading.specs.Steps.{goes_on}
use Rattle.cue_load_machine.specs.Asks.{patience}
use Rattle.cue_load_machine.specs.Laws.{HadTurns, OverInTime, WaitsInTime}
use Rattle.cue_load_machine.specs.Lives.{AreSendings, HasCopied, HasSent, How, IsSending, Sending, Stands, done}
use Rattle.cue_load_machine.specs.Lives.{awaited_since, late, load_machine, nobody, post, stage_after}
use Rattle.cue_load_machine.specs.Lives.{stops, turns_of, waits, waits_in}
use Rattle.cue_load_machine.specs.Stages.{again, highest, late_at, next_place, next_socket, spent}
use Rattle.cue_load_machine.specs.Stages as stages
use Rattle.cue_load_machine.specs.Steps.{State, begins, begins_with, bytes_of, first_stage, given_up, is_over, late_of}
use Rattle.cue_load_machine.specs.Steps.{message_given, state_of, state_then}
use Rattle.cue_load_machine.specs.Steps.{then_at, wakes, wakes_at, with_stage}
use Rattle.cue_load_machine.proofs.TurnLemmas.{state_losses, state_turn}
use Rattle.cue_load_machine.proofs.LifeLemmas.{of_waits, since_waits}
use Rattle.cue_load_machine.proofs.LawLemmas.{stands}

-- ---- what is asked stays

losses_asks : (ps : List Posted) (s : State) → (state_losses ps s).asks ≡ s.asks
losses_asks [] s = refl
losses_asks (p ∷ ps) s =
    losses_asks ps (cond p.lost (with_stage s (stages.lost s.manner s.at p.given.output)) s) ∙ either p.lost
  where
    either : (b : Bool) → (cond b (with_stage s (stages.lost s.manner s.at p.given.output)) s).asks ≡ s.asks
    either true = refl
    either false = refl

then_asks : (s : State) (t : Turn) (at : Stage) → (then_at s t.heard at).asks ≡ s.asks
then_asks s t stage.Copies = refl
then_asks s t (stage.Sends of) = refl
then_asks s t (stage.Waits w) = refl
then_asks s t (stage.Over e) = refl

same_asks : (m : LoadMachine) (ts : List Turn) (m_then : LoadMachine) → AreTurns load_machine m ts m_then
    → (state_of m_then).asks ≡ (state_of m).asks
same_asks m [] m_then h = ap (λ (x : LoadMachine). (state_of x).asks) h
same_asks m (t ∷ ts) m_then h =
    let s : State = state_of m in
    same_asks h.0 ts m_then h.2
    ∙ (ap (λ (x : State). x.asks) (state_turn m t h.0 h.1).after
    ∙ (losses_asks t.posted (state_then s t.heard) ∙ then_asks s t s.at))

-- ---- it waits

abbrev is_waits : Stage → Bool
is_waits stage.Copies = false
is_waits (stage.Sends of) = false
is_waits (stage.Waits w) = true
is_waits (stage.Over e) = false

abbrev waits_of : Waits → Stage → Waits
waits_of other stage.Copies = other
waits_of other (stage.Sends of) = other
waits_of other (stage.Waits w) = w
waits_of other (stage.Over e) = other

begins_not : (o : Option Ask) (place socket : ℕ) → is_waits (begins_with o place socket) ≡ false
begins_not None place socket = refl
begins_not (Some a) place socket = refl

given_up_not : (s : State) (f : Form) (of : Try) → is_waits (given_up s.asks f of) ≡ false
given_up_not s form.Alone of = refl
given_up_not s (form.Together count) of =
    begins_not (slice_get s.asks (next_place of.place 0)) (next_place of.place 0) (next_socket of.socket)

silent_not : (s : State) (f : Form) (of : Try) (b : Bool)
    → is_waits (cond b (stage.Sends (again of)) (given_up s.asks f of)) ≡ false
silent_not s f of true = refl
silent_not s f of false = given_up_not s f of

no_waits : (w : Waits) (at : Stage) → stage.Waits w ≡ at → is_waits at ≡ false → ⊥
no_waits w at e f = true≢false (ap is_waits e ∙ f)

waiting_as : (m : LoadMachine) (ts : List Turn) (m_then : LoadMachine) (w : Waits) → m_then.stage ≡ stage.Waits w
    → (state_of m_then).asks ≡ (state_of m).asks → (first : List Turn) (x : Sending) (xs : List Sending)
    → ts ≡ first ++ (turns_of xs ++ x.left ∷ x.after) → slice_get (state_of m).asks x.of.place ≡ Some x.ask
    → (lost : Bool) → x.left.posted ≡ post (message_given m.port x.ask x.of.socket) lost ∷ []
    → w ≡ waits_in (state_of m) x → WaitsInTime m ts m_then
waiting_as m ts m_then w at asks first x xs all there lost left is =
    let s : State = state_of m in
    let of : w.of ≡ spent x.of = of_waits s x w is in
    let since : w.since ≡ awaited_since s x = since_waits s x w is in
    let found : slice_get m_then.asks.items w.of.place ≡ Some x.ask =
    ap (λ (v : Try). slice_get m_then.asks.items v.place) of
    ∙ (ap (λ (xs : List Ask). slice_get xs x.of.place) asks ∙ there) in
    record {
      before = first ++ turns_of xs;
      x = x;
      all = all ∙ sym (append_assoc first (turns_of xs) (x.left ∷ x.after));
      lost = lost;
      left = left;
      until = late_at x.ask.form (awaited_since s x);
      wakes = ap (λ (v : Stage). wakes_at m_then v) at
          ∙ (ap (λ (o : Option Ask). Some (late_of o w)) found ∙ ap (λ (n : ℕ). Some (late_at x.ask.form n)) since);
      soon = min-le_left (awaited_since s x + patience x.ask.form) highest;
    }

waiting_how : (m : LoadMachine) (ts : List Turn) (m_then : LoadMachine) (w : Waits) → m_then.stage ≡ stage.Waits w
    → (state_of m_then).asks ≡ (state_of m).asks → (first : List Turn) (x : Sending) (xs : List Sending)
    → ts ≡ first ++ (turns_of xs ++ x.left ∷ x.after) → (how : How) → IsSending (state_of m) x how
    → stage.Waits w ≡ stage_after (state_of m) x how → WaitsInTime m ts m_then
waiting_how m ts m_then w at asks first x xs all waits h e =
    waiting_as m ts m_then w at asks first x xs all h.there h.lost h.left (ap (λ (v : Stage). waits_of w v) e)
waiting_how m ts m_then w at asks first x xs all done h e =
    absurd (no_waits w (stage_after (state_of m) x done) e (begins_not (slice_get (state_of m).asks _) _ x.of.socket))
waiting_how m ts m_then w at asks first x xs all (stops code) h e =
    absurd (no_waits w (stage_after (state_of m) x (stops code)) e refl)
waiting_how m ts m_then w at asks first x xs all late h e =
    absurd (no_waits w (stage_after (state_of m) x late) e
    (silent_not (state_of m) x.ask.form (spent x.of) (nat_lt 0 (spent x.of).left)))
waiting_how m ts m_then w at asks first x xs all nobody h e =
    absurd (no_waits w (stage_after (state_of m) x nobody) e refl)

waiting_by : (m : LoadMachine) (ts : List Turn) (m_then : LoadMachine) (w : Waits) → m_then.stage ≡ stage.Waits w
    → (state_of m_then).asks ≡ (state_of m).asks → (first : List Turn) (xs : List Sending)
    → ts ≡ first ++ turns_of xs → AreSendings (state_of m) xs (stage.Waits w) → WaitsInTime m ts m_then
waiting_by m ts m_then w at asks first [] all h =
    absurd (no_waits w (begins (state_of m).asks 0 0) h (begins_not (slice_get (state_of m).asks 0) 0 0))
waiting_by m ts m_then w at asks first (x ∷ xs) all h =
    waiting_how m ts m_then w at asks first x xs all h.0 h.1 h.3

over_at : (m : LoadMachine) (ts : List Turn) (m_then : LoadMachine) (at : Stage) → m_then.stage ≡ at
    → (state_of m_then).asks ≡ (state_of m).asks → (first rest : List Turn) → ts ≡ first ++ rest
    → HasSent (state_of m) rest m_then.answers.items at
    → (is_over m_then ≡ true) ⊎ (wakes m_then ≡ Some 0) ⊎ WaitsInTime m ts m_then
over_at m ts m_then stage.Copies at asks first rest all h = inr (inl (ap (λ (v : Stage). wakes_at m_then v) at))
over_at m ts m_then (stage.Sends of) at asks first rest all h = inr (inl (ap (λ (v : Stage). wakes_at m_then v) at))
over_at m ts m_then (stage.Waits w) at asks first rest all h =
    inr (inr (waiting_by m ts m_then w at asks first h.sendings
    (all ∙ ap (λ (xs : List Turn). first ++ xs) h.all) h.are))
over_at m ts m_then (stage.Over e) at asks first rest all h = inl (ap (λ (v : Stage). stages.is_over v) at)

over_by : (m : LoadMachine) (ts : List Turn) (m_then : LoadMachine) → (state_of m_then).asks ≡ (state_of m).asks
    → (first rest : List Turn) → ts ≡ first ++ rest → HasSent (state_of m) rest m_then.answers.items m_then.stage
    → (is_over m_then ≡ true) ⊎ (wakes m_then ≡ Some 0) ⊎ WaitsInTime m ts m_then
over_by m ts m_then asks first rest all h = over_at m ts m_then m_then.stage refl asks first rest all h

copied_over : (m : LoadMachine) (text : List ℕ) (ts : List Turn) (m_then : LoadMachine)
    → (state_of m_then).asks ≡ (state_of m).asks
    → HasCopied (state_of m) text ts m_then.answers.items m_then.stage
    → (is_over m_then ≡ true) ⊎ (wakes m_then ≡ Some 0) ⊎ WaitsInTime m ts m_then
copied_over m text ts m_then asks h = by h.goes
  where
    by :
        ((h.rest ≡ []) × (m_then.stage ≡ stage.Over end.NotKept) × (h.lost ≡ true))
        ⊎ (((h.lost ≡ false) ⊎ (goes_on m.manner false ≡ true))
        × HasSent (state_of m) h.rest m_then.answers.items m_then.stage)
        → (is_over m_then ≡ true) ⊎ (wakes m_then ≡ Some 0) ⊎ WaitsInTime m ts m_then
    by (inl over) = inl (ap (λ (v : Stage). stages.is_over v) over.1)
    by (inr goes) = over_by m ts m_then asks (h.first ∷ []) h.rest h.all goes.1

over_with : (m : LoadMachine) (ts : List Turn) (m_then : LoadMachine) → HadTurns m ts m_then
    → (state_of m_then).asks ≡ (state_of m).asks → (o : Option (List ℕ)) → bytes_of m.copy ≡ o
    → Stands (state_of m) o ts m_then.answers.items m_then.stage
    → (is_over m_then ≡ true) ⊎ (wakes m_then ≡ Some 0) ⊎ WaitsInTime m ts m_then
over_with m ts m_then h asks None c k = over_by m ts m_then asks [] ts refl k
over_with m [] m_then h asks (Some text) c k =
    let at : m_then.stage ≡ stage.Copies =
    ap (λ (x : LoadMachine). x.stage) h.turns
    ∙ (h.new ∙ ap (λ (o : Option (List ℕ)). first_stage m.asks.items o) c) in
    inr (inl (ap (λ (v : Stage). wakes_at m_then v) at))
over_with m (t ∷ ts) m_then h asks (Some text) c (inl none) = absurd (omega (arith, ap length none))
over_with m (t ∷ ts) m_then h asks (Some text) c (inr k) = copied_over m text (t ∷ ts) m_then asks k

pub over-in-time : OverInTime
over-in-time m ts m_then h =
    over_with m ts m_then h (same_asks m ts m_then h.turns) (bytes_of m.copy) refl (stands m ts m_then h)
