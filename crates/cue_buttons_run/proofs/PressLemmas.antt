-- What is pressed at a desk.
use Rattle.std.proofs.Common.{◌≡◌, refl, ap, inl, inr, Bool, true, false, Option, None, Some}
use Rattle.cue_panel.specs.Outcomes.{hand_after}
use Rattle.cue_panel.specs.Playing.{by_hand}
use Rattle.cue_panel.specs.declared.outcome.Outcome.{Outcome}
use Rattle.cue_panel.specs.declared.outcome.Outcome.TheVariants as outcome
use Rattle.cue_panel.specs.declared.player.Player.{Player}
use Rattle.cue_panel.specs.declared.taking.Strike.{Strike}
use Rattle.cue_presses.specs.declared.hand.Hand.{Hand}
use Rattle.cue_presses.specs.declared.pressing.Press.{Press}
use Rattle.cue_station.specs.declared.station.Station.{Station}
use Rattle.cue_view.specs.declared.view.View.{View}
use Rattle.cue_buttons_run.specs.Pressing.{Chooses, IsPressed, Presses, PressesButton, Strikes}

-- the choice was heard, and then the button was pressed
pub chosen_then : (p : Press) (r : Outcome) (old mid new : Station) (v mid_view v_then : View)
    → Chooses true p.choose old mid v mid_view → PressesButton p.button r mid new mid_view v_then
    → Presses p r old new v v_then
chosen_then p r old mid new v mid_view v_then c b =
    record { mid = mid; mid_view = mid_view; is_chosen = true; chosen = c; pressed = b }

-- or it was not
pub unchosen : (p : Press) (old new : Station) (v v_then : View) → Chooses false p.choose old new v v_then
    → Presses p outcome.Unheard old new v v_then
unchosen p old new v v_then c =
    record { mid = new; mid_view = v_then; is_chosen = false; chosen = c; pressed = ((refl, refl), refl) }

-- it is pressed, and the hand knows what came of it
pub is_pressed : (p : Press) (r : Outcome) (q q_then : Player) (old new : Station) (v v_then : View)
    → Presses p r old new v v_then → q_then ≡ by_hand (hand_after p r v_then q.hand) q
    → IsPressed p q.hand q_then.hand old new v v_then
is_pressed p r q q_then old new v v_then presses e =
    record { outcome = r; presses = presses; hand = ap (λ (x : Player). x.hand) e }

-- what was given is pressed, with memory or without
pub strikes_pressed : (w : Bool) (x : Strike) (h h_then : Hand) (old new : Station) (v v_then : View)
    → IsPressed x.press h h_then old new v v_then → Strikes w (Some x) h h_then old new v v_then
strikes_pressed true x h h_then old new v v_then is = is
strikes_pressed false x h h_then old new v v_then is = inl is

-- nothing was given
pub strikes_none : (w : Bool) (h h_then : Hand) (old new : Station) (v v_then : View) → h_then ≡ h → new ≡ old
    → v_then ≡ v → Strikes w None h h_then old new v v_then
strikes_none true h h_then old new v v_then e a b = (e, (a, b))
strikes_none false h h_then old new v v_then e a b = (e, (a, b))

-- memory ran out before anything was
pub strikes_lost : (o : Option Strike) (h h_then : Hand) (old new : Station) (v v_then : View) → h_then ≡ h
    → new ≡ old → v_then ≡ v → Strikes false o h h_then old new v v_then
strikes_lost None h h_then old new v v_then e a b = (e, (a, b))
strikes_lost (Some x) h h_then old new v v_then e a b = inr (e, (a, b))
