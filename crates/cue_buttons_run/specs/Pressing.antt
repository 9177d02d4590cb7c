-- What is pressed at a desk without a browser, and by what.
use Rattle.std.specs.Prelude.{◌≡◌, ◌⊎◌, Bool, true, false, ℕ, List, Option, None, Some}
use Rattle.cue_desk_run.specs.Working.{HearsFor, HearsIf, Stays}
use Rattle.cue_midi.specs.declared.heard.Heard.{Heard}
use Rattle.cue_midi.specs.declared.parser.Parser.{Parser}
use Rattle.cue_midi.specs.Stream.{IsAfter, heard_at}
use Rattle.cue_panel.specs.Outcomes.{hand_after, outcome_of}
use Rattle.cue_panel.specs.Taking.{strike_of, taken_of}
use Rattle.cue_panel.specs.declared.outcome.Outcome.{Outcome}
use Rattle.cue_panel.specs.declared.outcome.Outcome.TheVariants as outcome
use Rattle.cue_panel.specs.declared.player.Player.{Player}
use Rattle.cue_panel.specs.declared.player.Setting.{Setting}
use Rattle.cue_panel.specs.declared.taking.Strike.{Strike}
use Rattle.cue_presses.specs.declared.hand.Hand.{Hand}
use Rattle.cue_presses.specs.declared.pressing.Press.{Press}
use Rattle.cue_station.specs.declared.heard.Heard.TheVariants as heard
use Rattle.cue_station.specs.declared.station.Station.{Station}
use Rattle.cue_view.specs.declared.button.Button.{Button}
use Rattle.cue_view.specs.declared.button.Button.TheVariants as button
use Rattle.cue_view.specs.declared.view.View.{View}

-- ---- one press

-- the desk heard that this button of its newest view was pressed, or could not hear it
abbrev pub PressesOne : Bool → Button → (old new : Station) → (v v_then : View) → Type 0
PressesOne is_heard b old new v v_then = HearsIf is_heard (heard.Pressed v.number b) old new v v_then

-- the attempt is chosen first, if it has to be
abbrev pub Chooses : Bool → Option ℕ → (old new : Station) → (v v_then : View) → Type 0
Chooses is_heard None old new v v_then = (is_heard ≡ true) × Stays old new v v_then
Chooses is_heard (Some q) old new v v_then = PressesOne is_heard (button.Choose q) old new v v_then

-- what comes of a press that was heard is what the view after it says
abbrev pub ComesOf : Bool → Outcome → View → Type 0
ComesOf true r v_then = r ≡ outcome_of v_then
ComesOf false r v_then = r ≡ outcome.Unheard

pub record PressesButton (b : Button) (r : Outcome) (old new : Station) (v v_then : View) : Type 0 where
  pub is_heard : Bool
  pub pressed : PressesOne is_heard b old new v v_then
  pub comes : ComesOf is_heard r v_then

-- then the button is pressed, if the choice was heard
abbrev pub PressesIf : Bool → Button → Outcome → (old new : Station) → (v v_then : View) → Type 0
PressesIf true b r old new v v_then = PressesButton b r old new v v_then
PressesIf false b r old new v v_then = Stays old new v v_then × (r ≡ outcome.Unheard)

-- Its attempt is chosen, if it has to be, and then its button is pressed, each of the newest view and once. Nothing
-- else is, and this comes of it.
pub record Presses (p : Press) (r : Outcome) (old new : Station) (v v_then : View) : Type 0 where
  pub mid : Station
  pub mid_view : View
  pub is_chosen : Bool
  pub chosen : Chooses is_chosen p.choose old mid v mid_view
  pub pressed : PressesIf is_chosen p.button r mid new mid_view v_then

-- ---- what a panel gives to be pressed

-- It is pressed once, or the desk could not hear it; and the hand knows which.
pub record IsPressed (p : Press) (h h_then : Hand) (old new : Station) (v v_then : View) : Type 0 where
  pub outcome : Outcome
  pub presses : Presses p outcome old new v v_then
  pub hand : h_then ≡ hand_after p outcome v_then h

-- nothing is pressed, and the hand stands so
abbrev pub Leaves : (h h_then : Hand) → (old new : Station) → (v v_then : View) → Type 0
Leaves h h_then old new v v_then = (h_then ≡ h) × Stays old new v v_then

-- What is given to be pressed is pressed, and nothing else; if memory runs out, it may be left.
abbrev pub Strikes : Bool → Option Strike → (h h_then : Hand) → (old new : Station) → (v v_then : View) → Type 0
Strikes true (Some x) h h_then old new v v_then = IsPressed x.press h h_then old new v v_then
Strikes false (Some x) h h_then old new v v_then =
    IsPressed x.press h h_then old new v v_then ⊎ Leaves h h_then old new v v_then
Strikes w None h h_then old new v v_then = Leaves h h_then old new v v_then

-- ---- why a press is heard

-- a message of MIDI means this press, by what the hand has done and the view shows
pub record Means (s : Setting) (h : Hand) (m : Heard) (v : View) (p : Press) : Type 0 where
  pub strike : Strike
  pub struck : strike_of (taken_of s h v m) ≡ Some strike
  pub press : p ≡ strike.press

-- it is the choice before a press, of the view that was shown
abbrev pub IsChoice : Press → View → ℕ → Button → Type 0
IsChoice p shown view b = (q : ℕ) × (p.choose ≡ Some q) × (b ≡ button.Choose q) × (view ≡ shown.number)

-- or its button: of the view that was shown, unless a choice was made before it
abbrev pub IsButton : Press → View → ℕ → Button → Type 0
IsButton p shown view b = (b ≡ p.button) × (p.choose ≡ None → view ≡ shown.number)

abbrev pub IsOfPress : Press → View → ℕ → Button → Type 0
IsOfPress p shown view b = IsButton p shown view b ⊎ IsChoice p shown view b

-- ---- at which byte of a device it is heard

-- Why a press of this button of a view is heard at a byte, after these bytes, the newest first: what the byte finishes
-- after them is a message of MIDI that means it, by what some hand has done and a view shows.
pub record IsStruckAt (s : Setting) (past : List ℕ) (byte : ℕ) (view : ℕ) (b : Button) : Type 0 where
  pub message : Heard
  pub spells : heard_at past byte ≡ Some message
  pub hand : Hand
  pub shown : View
  pub press : Press
  pub means : Means s hand message shown press
  pub is : IsOfPress press shown view b

-- it is heard at a byte that came after others
pub record IsStruck (s : Setting) (view : ℕ) (b : Button) : Type 0 where
  pub past : List ℕ
  pub byte : ℕ
  pub struck : IsStruckAt s past byte view b

-- ---- what is pressed while a device is heard

-- A parser has heard some bytes.
pub record HasHeard (p : Parser) : Type 0 where
  pub past : List ℕ
  pub after : IsAfter past p

-- If it has heard some, so it has then.
pub record StillHears (p p_then : Parser) : Type 0 where
  pub still : HasHeard p → HasHeard p_then

-- Each press that the desk heard was struck at some byte, and the panel is set as before.
pub record OnlyStruck (p p_then : Player) (old new : Station) : Type 0 where
  pub struck : HasHeard p.parser → HearsFor (IsStruck p.setting) old new
  pub parser : StillHears p.parser p_then.parser
  pub setting : p_then.setting ≡ p.setting
