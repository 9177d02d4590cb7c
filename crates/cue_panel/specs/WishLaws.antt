-- The laws of a wish, over all lists of turns.
use Rattle.std.specs.Prelude.{◌≡◌, ◌<◌, ◌≤◌, ℕ, ◌+◌, Bool, true, false, List, [], ◌∷◌, ◌++◌, ⊤, Option, None, Some, Ok}
use Rattle.cue_panel.specs.Lit.{is_lit}
use Rattle.cue_panel.specs.Wishing.{act_after, act_of, after_act, after_came}
use Rattle.cue_panel.specs.declared.outcome.Outcome.{Outcome}
use Rattle.cue_panel.specs.declared.outcome.Outcome.TheVariants as outcome
use Rattle.cue_panel.specs.declared.wish.Act.{Act}
use Rattle.cue_panel.specs.declared.wish.Act.TheVariants as act
use Rattle.cue_panel.specs.declared.wish.End.{End}
use Rattle.cue_panel.specs.declared.wish.End.TheVariants as end
use Rattle.cue_panel.specs.declared.wish.Stage.{Stage}
use Rattle.cue_panel.specs.declared.wish.Stage.TheVariants as stage
use Rattle.cue_panel.specs.declared.wish.Wish.{Wish}
use Rattle.cue_presses.specs.Meaning.{meaning}
use Rattle.cue_presses.specs.declared.intent.Intent.{Intent}
use Rattle.cue_presses.specs.declared.pressing.Press.{Press}
use Rattle.cue_view.specs.declared.view.Became.{Became}
use Rattle.cue_view.specs.declared.view.View.{View}

-- ---- turn by turn

-- a moment, the view that is shown then, and what comes of a press, if it presses
pub record Turn : Type 0 where
  pub now : ℕ
  pub view : View
  pub outcome : Outcome

abbrev pub press_by : Act → Option Press
press_by (act.Press p) = Some p
press_by act.Wait = None
press_by (act.End e) = None

-- what it presses in a turn
abbrev pub pressed_in : Wish → Turn → Option Press
pressed_in w t = press_by (act_of w t.now t.view)

abbrev pub after_press : Option Press → Turn → Wish → Wish
after_press (Some p) t w = after_came w t.now t.outcome
after_press None t w = w

-- how it goes on
abbrev pub after_turn : Wish → Turn → Wish
after_turn w t = after_press (pressed_in w t) t (after_act (act_of w t.now t.view) w)

-- and after all of these
abbrev pub wish_at : Wish → List Turn → Wish
wish_at w [] = w
wish_at w (t ∷ ts) = wish_at (after_turn w t) ts

abbrev pub end_by : Act → Option End
end_by (act.End e) = Some e
end_by act.Wait = None
end_by (act.Press p) = None

abbrev pub end_with : Option Press → Wish → Turn → Option End
end_with (Some p) w t = end_by (act_after w t.now t.outcome)
end_with None w t = end_by (act_of w t.now t.view)

-- how a turn ends it, if it does
abbrev pub end_in : Wish → Turn → Option End
end_in w t = end_with (pressed_in w t) w t

-- it is still tried
abbrev pub is_trying : Stage → Bool
is_trying stage.Trying = true
is_trying (stage.Sent ask until) = false
is_trying stage.Over = false

-- ---- it is sent once

abbrev pub count_of : Outcome → ℕ
count_of (outcome.Sent ask) = 1
count_of (outcome.Unsent u) = 0
count_of outcome.Unheard = 0

abbrev pub sent_by : Option Press → Outcome → ℕ
sent_by (Some p) o = count_of o
sent_by None o = 0

-- how often it was sent
abbrev pub sent : Wish → List Turn → ℕ
sent w [] = 0
sent w (t ∷ ts) = sent_by (pressed_in w t) t.outcome + sent (after_turn w t) ts

abbrev pub SentOnce : Type 0
SentOnce = (w : Wish) (ts : List Turn) → sent w ts ≤ 1

-- who is told what became of it was sent, once
abbrev pub BecameIsSent : Type 0
BecameIsSent =
    (w : Wish) (ts : List Turn) (t : Turn) (b : Became) → w.stage ≡ stage.Trying
    → end_in (wish_at w ts) t ≡ Some (end.Became b) → sent w (ts ++ t ∷ []) ≡ 1

abbrev pub listed : Option Press → List Press
listed (Some p) = p ∷ []
listed None = []

-- all that it presses
abbrev pub pressed : Wish → List Turn → List Press
pressed w [] = []
pressed w (t ∷ ts) = listed (pressed_in w t) ++ pressed (after_turn w t) ts

-- one that is tried no more presses nothing
abbrev pub NothingAfter : Type 0
NothingAfter = (w : Wish) (ts : List Turn) → is_trying w.stage ≡ false → pressed w ts ≡ []

-- ---- it is what was meant

-- the press is what the intent means by the view, and is lit there
pub record IsMeantBy (i : Intent) (v : View) (p : Press) : Type 0 where
  pub meant : meaning v None i ≡ Ok p
  pub lit : is_lit v p ≡ true

abbrev pub MeantIf : Intent → View → Option Press → Type 0
MeantIf i v (Some p) = IsMeantBy i v p
MeantIf i v None = ⊤

abbrev pub AreMeant : Intent → Wish → List Turn → Type 0
AreMeant i w [] = ⊤
AreMeant i w (t ∷ ts) = MeantIf i t.view (pressed_in w t) × AreMeant i (after_turn w t) ts

-- so is each press of a wish, whatever the turns
abbrev pub EachIsMeant : Type 0
EachIsMeant = (w : Wish) (ts : List Turn) → AreMeant w.intent w ts

-- ---- it ends

-- a turn once its time is over is the last in which it is tried
abbrev pub EndsInTime : Type 0
EndsInTime = (w : Wish) (t : Turn) → w.until < t.now → is_trying (after_turn w t).stage ≡ false

-- a turn once it was waited for long enough is the last one
abbrev pub EndsOnceSent : Type 0
EndsOnceSent =
    (w : Wish) (t : Turn) (ask until : ℕ) → w.stage ≡ stage.Sent ask until → until < t.now
    → (after_turn w t).stage ≡ stage.Over
