-- What a desk does of a wish: turn by turn it looks, and then does what the wish says.
use Rattle.std.specs.Prelude.{◌≡◌, ℕ, List, [], ◌∷◌, ◌++◌, ⊤, Option, Some, None}
use Rattle.cue_desk_run.specs.Working.{OnlyLooks, Stays}
use Rattle.cue_panel.specs.WishLaws.{Turn, after_turn, end_by, end_in, pressed_in, sent, wish_at}
use Rattle.cue_panel.specs.Wishing.{act_after, after_came}
use Rattle.cue_panel.specs.declared.outcome.Outcome.{Outcome}
use Rattle.cue_panel.specs.declared.wish.End.{End}
use Rattle.cue_panel.specs.declared.wish.End.TheVariants as end
use Rattle.cue_panel.specs.declared.wish.Stage.TheVariants as stage
use Rattle.cue_panel.specs.declared.wish.Wish.{Wish}
use Rattle.cue_presses.specs.declared.pressing.Press.{Press}
use Rattle.cue_station.specs.declared.station.Station.{Station}
use Rattle.cue_view.specs.declared.view.Became.{Became}
use Rattle.cue_view.specs.declared.view.View.{View}
use Rattle.cue_buttons_run.specs.Pressing.{Presses}

-- ---- one turn

-- what the wish gives is pressed, once, and this comes of it; if it gives nothing, nothing is pressed
abbrev pub DoesIf : Option Press → Outcome → (old new : Station) → (v v_then : View) → Type 0
DoesIf (Some p) o old new v v_then = Presses p o old new v v_then
DoesIf None o old new v v_then = Stays old new v v_then

abbrev pub turn_at : ℕ → View → Outcome → Turn
turn_at now v o = record { now = now; view = v; outcome = o }

-- a press that the wish gave at a moment is pressed, and the wish is told what came of it
pub record HasPressed (now : ℕ) (p : Press) (ended : Option End) (w w_then : Wish) (old new : Station)
    (v v_then : View) : Type 0 where
  pub outcome : Outcome
  pub presses : Presses p outcome old new v v_then
  pub wish : w_then ≡ after_came w now outcome
  pub ends : ended ≡ end_by (act_after w now outcome)

-- What the wish says at a moment, by the view that is shown, is done. It knows what came of it, and may have ended.
pub record HasActed (now : ℕ) (ended : Option End) (w w_then : Wish) (old new : Station)
    (v v_then : View) : Type 0 where
  pub outcome : Outcome
  pub does : DoesIf (pressed_in w (turn_at now v outcome)) outcome old new v v_then
  pub wish : w_then ≡ after_turn w (turn_at now v outcome)
  pub ends : ended ≡ end_in w (turn_at now v outcome)

-- A turn of a wish at a desk: first that only looks; then what the wish says is done, by the view that is shown then.
pub record IsTurn (w : Wish) (t : Turn) (old new : Station) : Type 0 where
  pub mid : Station
  pub looks : OnlyLooks old mid
  pub shown_then : View
  pub does : DoesIf (pressed_in w t) t.outcome mid new t.view shown_then

pub record HasTurned (ended : Option End) (w w_then : Wish) (old new : Station) : Type 0 where
  pub turn : Turn
  pub is : IsTurn w turn old new
  pub wish : w_then ≡ after_turn w turn
  pub ends : ended ≡ end_in w turn

-- ---- turn by turn

abbrev pub AllTurns : Wish → List Turn → (old new : Station) → Type 0
AllTurns w [] old new = new ≡ old
AllTurns w (t ∷ ts) old new = (mid : Station) × IsTurn w t old mid × AllTurns (after_turn w t) ts mid new

-- the last of the turns ended it so
pub record EndsWith (w : Wish) (ts : List Turn) (e : End) : Type 0 where
  pub front : List Turn
  pub last : Turn
  pub splits : ts ≡ front ++ last ∷ []
  pub ends : end_in (wish_at w front) last ≡ Some e

abbrev pub EndsAs : Wish → List Turn → Option End → Type 0
EndsAs w ts (Some e) = EndsWith w ts e
EndsAs w ts None = ⊤

-- The desk did turn by turn what the wish says, and nothing else; then it only looked. The wish has ended so, or it was
-- cut short.
pub record Wishes (w : Wish) (ended : Option End) (old new : Station) : Type 0 where
  pub turns : List Turn
  pub mid : Station
  pub all : AllTurns w turns old mid
  pub looks : OnlyLooks mid new
  pub ends : EndsAs w turns ended

abbrev pub HasWished : Wish → (old new : Station) → Type 0
HasWished w old new = (ended : Option End) × Wishes w ended old new

-- It was told what became of it: so it was sent in these turns, once.
pub record WishedOnce (w : Wish) (old new : Station) : Type 0 where
  pub became : Became
  pub wished : Wishes w (Some (end.Became became)) old new
  pub once : w.stage ≡ stage.Trying → sent w wished.turns ≡ 1
