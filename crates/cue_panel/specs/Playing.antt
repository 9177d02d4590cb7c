-- Who plays, and how he stands after what happens at a panel.
use Rattle.std.specs.Prelude.{◌≡◌, ◌⊎◌, ℕ, Bool, true, [], Option, None, Some, Result, Ok, Err, ⊤}
use Rattle.cue_midi.specs.declared.heard.Heard.{Heard}
use Rattle.cue_midi.specs.Stream.{HearsAt, IsAfter, KeepsAt}
use Rattle.cue_panel.specs.Pending.{is_undone}
use Rattle.cue_panel.specs.Taking.{hand_of, strike_of, taken_of}
use Rattle.cue_panel.specs.declared.player.Player.{Player}
use Rattle.cue_panel.specs.declared.player.Setting.{Setting}
use Rattle.cue_panel.specs.declared.taking.Strike.{Strike}
use Rattle.cue_presses.specs.declared.hand.Hand.{Hand}
use Rattle.cue_presses.specs.Hand.{begun, opened_at}
use Rattle.cue_presses.specs.Settling as settling
use Rattle.cue_view.specs.declared.view.Said.{Said}
use Rattle.cue_view.specs.declared.view.View.{View}

-- the same, with this hand
abbrev pub by_hand : Hand → Player → Player
by_hand h p = record p { hand = h }

-- A device is opened at this moment: no byte of it was heard, of its controllers nothing is known, and it settles. A GO
-- that was sent stays known.
pub record IsOpened (now : ℕ) (p p_then : Player) : Type 0 where
  pub setting : p_then.setting ≡ p.setting
  pub hand : p_then.hand ≡ opened_at now p.hand
  pub parser : IsAfter [] p_then.parser

-- what is read may press: nothing of it waited in the device
abbrev pub is_settled : Player → Bool
is_settled p = settling.is_over p.hand.settling

-- a round begins at this moment
abbrev pub begun_at : ℕ → Player → Player
begun_at now p = by_hand (begun now p.hand) p

-- ---- a byte

-- how the hand stands after what a byte finishes, if it finishes a message
abbrev pub hand_if : Setting → Hand → Option Heard → Hand
hand_if s h None = h
hand_if s h (Some m) = hand_of s h m

-- what is to be pressed then
abbrev pub strike_if : Setting → Hand → View → Option Heard → Option Strike
strike_if s h v None = None
strike_if s h v (Some m) = strike_of (taken_of s h v m)

-- this is given to be pressed; nothing is if memory runs out
abbrev pub Gives : {E : Type 0} → Result (Option Strike) E → Option Strike → Type 0
Gives (Ok given) strike = given ≡ strike
Gives (Err e) strike = ⊤

-- A byte is heard while this view is shown: what it finishes is said by the bytes before it, whichever the parser has
-- heard. That is taken by the hand as it stands, and what it means then is given to be pressed, and nothing else.
pub record HearsByte {E : Type 0} (byte : ℕ) (v : View) (p p_then : Player)
    (result : Result (Option Strike) E) : Type 0 where
  pub message : Option Heard
  pub hears : HearsAt p.parser byte message
  pub keeps : KeepsAt p.parser byte p_then.parser
  pub setting : p_then.setting ≡ p.setting
  pub hand : p_then.hand ≡ hand_if p.setting p.hand message
  pub gives : Gives result (strike_if p.setting p.hand v message)

-- ---- what was not carried out

-- a view says of the last press, or of the one before it, that it was not carried out, and never will be
pub record TellsUndone (v : View) : Type 0 where
  pub said : Said
  pub told : (v.said ≡ Some said) ⊎ (v.before ≡ Some said)
  pub undone : is_undone said.became ≡ true

-- what was passed before a press that is undone counts again
abbrev pub undone_player : Option (Option ℕ) → Player → Player
undone_player (Some passed) p = by_hand (record p.hand { passed = passed }) p
undone_player None p = p

-- Where a view says that a press was not carried out, another number may count as passed: which one, this does not say.
-- Nothing else is changed.
abbrev pub Undoes : (p p_then : Player) → View → Type 0
Undoes p p_then v = (p_then ≡ p) ⊎ (TellsUndone v × (passed : Option ℕ)
    × (p_then ≡ by_hand (record p.hand { passed = passed }) p))
