-- A hand at a real desk: what is pressed of what it strikes, and what is dropped.
use Rattle.std.specs.Prelude.{◌≡◌, ℕ, ◌+◌, Bool, true, false, not, ◌&&◌, if◌then◌else◌, max, nat_lt, IsTrue}
use Rattle.std.specs.Prelude.{List, Option, None, Some, Result, Ok, Err}
use Rattle.cue_show.specs.Number.{same_text}
use Rattle.cue_midi.specs.declared.heard.Heard.{Heard}
use Rattle.cue_view.specs.declared.button.Button.{Button}
use Rattle.cue_view.specs.declared.button.Button.TheVariants as button
use Rattle.cue_view.specs.declared.view.View.{View}
use Rattle.cue_presses.specs.declared.hand.Hand.{Hand}
use Rattle.cue_presses.specs.declared.hand.Struck.{Struck}
use Rattle.cue_presses.specs.declared.hand.Struck.TheVariants as struck
use Rattle.cue_presses.specs.declared.hand.TheConstants.{FINGERS}
use Rattle.cue_presses.specs.declared.intent.Intent.{Intent}
use Rattle.cue_presses.specs.declared.intent.Intent.TheVariants as intent
use Rattle.cue_presses.specs.declared.keys.Keys.{Keys}
use Rattle.cue_presses.specs.declared.pressing.Press.{Press}
use Rattle.cue_presses.specs.declared.pressing.Why.{Why}
use Rattle.cue_presses.specs.Keys.{pedals_after, unheard}
use Rattle.cue_presses.specs.Meaning.{is_meant, meaning, newest_of}
use Rattle.cue_presses.specs.Settling as settling
use Rattle.cue_presses.specs.Taps.{is_second_tap}

-- a hand that has struck nothing
abbrev pub idle : Hand
idle =
    record {
      pedals = unheard;
      settling = settling.opened 0;
      at = 0;
      count = 0;
      last_go = None;
      passed = None;
    }

-- its device is opened; a round begins; a read has found nothing; this was heard
abbrev pub opened_at : ℕ → Hand → Hand
opened_at now h = record h { pedals = unheard; settling = settling.opened now }

abbrev pub begun : ℕ → Hand → Hand
begun now h = record h { settling = settling.read h.settling now; at = now; count = 0 }

abbrev pub emptied : Hand → Hand
emptied h = record h { settling = settling.emptied h.settling h.at }

abbrev pub after : Keys → Heard → Hand → Hand
after k m h = record h { pedals = pedals_after k h.pedals m }

-- one press more is heard in this round
abbrev pub has_room : Hand → Bool
has_room h = nat_lt h.count FINGERS

-- something was struck; what waited in the device takes no finger
abbrev pub counted : Hand → Hand
counted h = if settling.is_over h.settling && has_room h then record h { count = h.count + 1 } else h

-- what it presses, or why nothing
abbrev pub meant_by : Result Press Why → Struck
meant_by (Ok p) = struck.Presses p
meant_by (Err w) = struck.Refused w

-- What comes of an intent: nothing if it waited in the device, or came with more than there are fingers, or is the
-- second tap of a GO; else what it means.
abbrev pub comes_of : Hand → View → Intent → Struck
comes_of h v i =
    if not (settling.is_over h.settling) then struck.Waited
    else if not (has_room h) then struck.Flooded
    else if is_second_tap i h.last_go h.at then struck.Tap else meant_by (meaning v h.passed i)

-- this button of the view was pressed
abbrev pub sent : View → Button → Hand → Hand
sent v (button.Go cue q) h = record h { last_go = Some h.at; passed = Some (max (newest_of v.live.items) q) }
sent v _ h = h

-- ---- what it comes to

-- who names no cue means any
abbrev pub is_for : Option (List ℕ) → List ℕ → Bool
is_for None cue = true
is_for (Some named) cue = same_text cue named

-- the button is that of the key, and of the cue that was named
abbrev pub is_button_of : Intent → Button → Bool
is_button_of (intent.Standby named) (button.Standby cue) = is_meant named cue
is_button_of (intent.Go named) (button.Go cue q) = is_for named cue
is_button_of intent.Cancel (button.Cancel cue q) = true
is_button_of _ _ = false

-- what is pressed came while somebody could have struck it, within eight in a round, once, and is what it means: of the
-- key that was struck, and of the cue that was named
pub record Meant (h : Hand) (v : View) (i : Intent) (p : Press) : Type 0 where
  pub settled : IsTrue (settling.is_over h.settling)
  pub room : IsTrue (has_room h)
  pub once : is_second_tap i h.last_go h.at ≡ false
  pub meant : meaning v h.passed i ≡ Ok p
  pub key : IsTrue (is_button_of i p.button)

abbrev pub PressedIsMeant : Type 0
PressedIsMeant = (h : Hand) (v : View) (i : Intent) (p : Press) → comes_of h v i ≡ struck.Presses p → Meant h v i p
