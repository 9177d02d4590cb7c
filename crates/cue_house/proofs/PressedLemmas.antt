-- A message of a desk that is a GO was pressed for, on a young view that had it lit.
use Rattle.std.proofs.Common.{◌≡◌, ◌⊎◌, inl, inr, ℕ, zero, suc, ◌+◌, Bool, true, false, ◌&&◌, ◌||◌, List, [], ◌∷◌}
use Rattle.std.proofs.Common.{◌++◌, Option, None, Some, map, take, nat_eq, nat_le, refl, sym, ap, ◌∙◌, subst}
use Rattle.std.proofs.Common.{true≢false, IsTrue}
use Rattle.std.specs.List.{list_any}
use Rattle.std.proofs.lemmas.Bool.{leb-true}
use Rattle.cue_show.specs.Number.{same_text}
use Rattle.cue_show.proofs.TestLemmas.{both, same_number}
use Rattle.cue_show.proofs.TextLemmas.{same_text-true}
use Rattle.cue_exchange.specs.declared.attempt.Attempt.{Attempt}
use Rattle.cue_exchange.specs.Live.{attempt_of}
use Rattle.cue_exchange.specs.Steps.{can_go_now}
use Rattle.cue_core.proofs.live.FindingLemmas.{held}
use Rattle.cue_operator.specs.declared.method.CueVerb.TheVariants as verb
use Rattle.cue_desk.specs.declared.orders.DeskCommand.{DeskCommand}
use Rattle.cue_desk.specs.declared.orders.DeskCommand.TheVariants as order
use Rattle.cue_view.specs.declared.button.Button.{Button}
use Rattle.cue_view.specs.declared.button.Button.TheVariants as button
use Rattle.cue_station.specs.declared.heard.Heard.TheVariants.{Pressed}
use Rattle.cue_station.specs.declared.heard.Send.{Send}
use Rattle.cue_station.specs.declared.lighting.Footing.{Footing}
use Rattle.cue_station.specs.declared.limits.TheConstants.{KEPT_VIEWS, PRESS_MS}
use Rattle.cue_station.specs.declared.memory.Reading.{Reading}
use Rattle.cue_station.specs.declared.memory.Shown.{Shown}
use Rattle.cue_station.specs.Laws.{Keeps, KeepsLaw}
use Rattle.cue_station.specs.Lighting.{footing_of, is_live_as, is_ready, may, may_by, may_go}
use Rattle.cue_station.specs.Offering.{is_lit, is_offered, is_recent, kept_in, kept_of, offers}
use Rattle.cue_station.specs.Pressing.{IsOfPress, is_heeded, order_of}
use Rattle.cue_station.specs.Reading.{reading_of, seen_since}
use Rattle.cue_station.specs.Sendings.{is_go_order}
use Rattle.cue_station.specs.Showing.{is_in_time}
use Rattle.cue_station.specs.Turns.{Turn}
use Rattle.cue_house.specs.Presses.{IsPressOfGo, WasLit, WasReady}

-- ---- what may be lit was ready

ready_in : (turns : List Turn) (r : Reading) (f : Footing) (since : ℕ → Option ℕ) (cue : List ℕ) (p : ℕ)
    → reading_of turns ≡ Some r → IsTrue (may_go f since cue p r.copy) → WasReady turns cue p
ready_in turns r f since cue p is may_be =
    let live : IsTrue (is_live_as p (λ a. same_text a.cue cue && is_ready (since p) f.at f.wall a) r.copy.state.live) =
    (both _ (is_live_as p (λ a. same_text a.cue cue && is_ready (since p) f.at f.wall a) r.copy.state.live) may_be).1 in
    let k = held (λ (a : Attempt). same_text a.cue cue && is_ready (since p) f.at f.wall a)
    (attempt_of r.copy.state.live p) live in
    let passes = both (same_text k.0.cue cue) (is_ready (since p) f.at f.wall k.0) k.2 in
    record {
      reading = r;
      newest = is;
      attempt = k.0;
      found = k.1;
      of_cue = same_text-true k.0.cue cue passes.0;
      ready = (both (can_go_now k.0) (is_in_time (since p) f.at f.wall k.0) passes.1).0;
    }

ready_by : (turns : List Turn) (f : Footing) (since : ℕ → Option ℕ) (cue : List ℕ) (p : ℕ)
    → IsTrue (may_by f since (reading_of turns) (button.Go cue p)) → WasReady turns cue p
ready_by turns f since cue p may_be = by (reading_of turns) refl may_be
  where
    by : (o : Option Reading) → reading_of turns ≡ o → IsTrue (may_by f since o (button.Go cue p))
        → WasReady turns cue p
    by None is k = absurd (true≢false (sym k))
    by (Some r) is k = ready_in turns r f since cue p is k

was_ready : (turns : List Turn) (now wall : ℕ) (cue : List ℕ) (p : ℕ)
    → IsTrue (may turns now wall (button.Go cue p)) → WasReady turns cue p
was_ready turns now wall cue p may_be =
    ready_by turns (footing_of turns now wall) (λ q. seen_since q turns) cue p may_be

-- ---- the view of the press

-- one of the turns showed what passes the test
record IsShown (turns : List Turn) (test : Shown → Bool) : Type 0 where
  pub later : List Turn
  pub turn : Turn
  pub before : List Turn
  pub split : turns ≡ later ++ turn ∷ before
  pub passes : test (kept_in turn) ≡ true

shown_in : (turns : List Turn) (test : Shown → Bool) (n : ℕ) → list_any test (take n (map kept_in turns)) ≡ true
    → IsShown turns test
shown_in turns test zero h = absurd (true≢false (sym h))
shown_in [] test (suc n) h = absurd (true≢false (sym h))
shown_in (t ∷ turns) test (suc n) h = by (test (kept_in t)) refl (λ k. shown_in turns test n k) h
  where
    by : (b : Bool) → test (kept_in t) ≡ b
        → (list_any test (take n (map kept_in turns)) ≡ true → IsShown turns test)
        → (b || list_any test (take n (map kept_in turns))) ≡ true → IsShown (t ∷ turns) test
    by true is f k = record { later = []; turn = t; before = turns; split = refl; passes = is }
    by false is f k =
        let s : IsShown turns test = f k in
        record {
          later = t ∷ s.later;
          turn = s.turn;
          before = s.before;
          split = ap (λ (ts : List Turn). t ∷ ts) s.split;
          passes = s.passes;
        }

-- the law of a turn of the evening
keeps_at : (later : List Turn) (t : Turn) (before : List Turn) → KeepsLaw (later ++ t ∷ before) → Keeps t before
keeps_at [] t before law = law.0
keeps_at (u ∷ later) t before law = keeps_at later t before law.1

was_lit : (turns : List Turn) (number now : ℕ) (cue : List ℕ) (p : ℕ) → KeepsLaw turns
    → IsTrue (is_offered number now (button.Go cue p) (kept_of turns)) → WasLit turns number now cue p
was_lit turns number now cue p law offered =
    let s : IsShown turns (offers number now (button.Go cue p)) =
    shown_in turns (offers number now (button.Go cue p)) KEPT_VIEWS offered in
    let two = both (is_recent number now (kept_in s.turn)) (is_lit (button.Go cue p) s.turn.view.lit.items) s.passes in
    let recent = both (nat_eq s.turn.view.number number) (nat_le now (s.turn.view.at + PRESS_MS)) two.0 in
    let keeps : Keeps s.turn s.before =
    keeps_at s.later s.turn s.before (subst (λ (ts : List Turn). KeepsLaw ts) s.split law) in
    record {
      later = s.later;
      turn = s.turn;
      before = s.before;
      split = s.split;
      numbered = same_number s.turn.view.number number recent.0;
      young = leb-true now (s.turn.view.at + PRESS_MS) recent.1;
      lit = two.1;
      ready = was_ready (s.turn ∷ s.before) s.turn.input.at s.turn.input.wall cue p
          (keeps.lit.lit (button.Go cue p) two.1);
    }

-- ---- the press of a message

-- the message is a go
abbrev is_go : Option DeskCommand → Bool
is_go None = false
is_go (Some o) = is_go_order o

abbrev cue_in : Option DeskCommand → List ℕ
cue_in (Some (order.OfCue v c)) = c
cue_in _ = []

-- the button is a GO of the cue
record IsGoOf (b : Button) (cue : List ℕ) : Type 0 where
  pub attempt : ℕ
  pub is : b ≡ button.Go cue attempt

not_go : {A : Type 0} (o : Option DeskCommand) (cue : List ℕ) → is_go o ≡ false
    → o ≡ Some (order.OfCue verb.Go cue) → A
not_go o cue other is = absurd (true≢false (sym (ap is_go is) ∙ other))

button_of : (b : Button) (cue : List ℕ) → order_of b ≡ Some (order.OfCue verb.Go cue) → IsGoOf b cue
button_of (button.Go c q) cue is =
    record { attempt = q; is = ap (λ (x : List ℕ). button.Go x q) (ap cue_in is) }
button_of (button.Standby c) cue is = not_go (order_of (button.Standby c)) cue refl is
button_of (button.Cancel c q) cue is = not_go (order_of (button.Cancel c q)) cue refl is
button_of (button.Release q d) cue is = not_go (order_of (button.Release q d)) cue refl is
button_of (button.MoveTo c) cue is = not_go (order_of (button.MoveTo c)) cue refl is
button_of (button.Choose q) cue is = not_go (order_of (button.Choose q)) cue refl is
button_of (button.Seen q) cue is = not_go (order_of (button.Seen q)) cue refl is

pressed_for : (t : Turn) (past : List Turn) (s : Send) (cue : List ℕ) → KeepsLaw past
    → s.order ≡ order.OfCue verb.Go cue → IsOfPress t past s → IsPressOfGo t past cue
pressed_for t past s cue law is p =
    let b : IsGoOf p.pressed_button cue =
    button_of p.pressed_button cue (p.message ∙ ap (λ (o : DeskCommand). Some o) is) in
    let heeded : IsTrue (is_heeded past t.input.at t.input.wall p.view (button.Go cue b.attempt)) =
    subst (λ (x : Button). IsTrue (is_heeded past t.input.at t.input.wall p.view x)) b.is p.heeded in
    let two = both (is_offered p.view t.input.at (button.Go cue b.attempt) (kept_of past))
    (may past t.input.at t.input.wall (button.Go cue b.attempt)) heeded in
    record {
      attempt = b.attempt;
      view = p.view;
      pressed = p.pressed ∙ ap (Pressed p.view) b.is;
      lit = was_lit past p.view t.input.at cue b.attempt law two.0;
      still = was_ready past t.input.at t.input.wall cue b.attempt two.1;
    }

pub press_of : (t : Turn) (past : List Turn) (s : Send) (cue : List ℕ) → Keeps t past → KeepsLaw past
    → t.sent ≡ Some s → s.order ≡ order.OfCue verb.Go cue → IsPressOfGo t past cue
press_of t past s cue keeps law sent is = by (keeps.press.sent s sent)
  where
    by : (s.order ≡ order.Status) ⊎ IsOfPress t past s → IsPressOfGo t past cue
    by (inl status) = absurd (true≢false (sym (ap is_go_order is) ∙ ap is_go_order status))
    by (inr p) = pressed_for t past s cue law is p
