-- How a wish ends, and what is told of it, byte for byte.
use Rattle.std.specs.Prelude.{◌≡◌, ℕ, List, ◌++◌, codes, Option, None, Some}
use Rattle.cue_board.specs.Alarms.{alarm_words}
use Rattle.cue_board.specs.Presses.{became_words, unsent_words}
use Rattle.cue_desk.specs.declared.ending.Ending.{Ending}
use Rattle.cue_desk.specs.declared.ending.Ending.TheVariants as ending
use Rattle.cue_panel.specs.declared.wish.End.{End}
use Rattle.cue_panel.specs.declared.wish.End.TheVariants as end
use Rattle.cue_panel.specs.declared.wish.Hindrance.{Hindrance}
use Rattle.cue_panel.specs.declared.wish.Hindrance.TheVariants as hindrance
use Rattle.cue_press_words.specs.Endings.{ending_by}
use Rattle.cue_press_words.specs.Words.{button_words, intent_words, trouble_of}
use Rattle.cue_presses.specs.declared.intent.Intent.{Intent}
use Rattle.cue_show_file.specs.declared.together.Group.{Group}
use Rattle.cue_view.specs.declared.view.Alarm.{Alarm}
use Rattle.cue_view.specs.declared.view.Became.{Became}
use Rattle.cue_view.specs.declared.view.Said.{Said}
use Rattle.cue_view.specs.declared.view.View.{View}

-- ---- nothing was sent

abbrev pub refusal_text : (intent words : List ℕ) → List ℕ
refusal_text intent words = intent ++ (codes ": " ++ (words ++ codes ": nothing was sent"))

-- in which words it says why, this does not say
pub record IsRefusal (i : Intent) (text : List ℕ) : Type 0 where
  pub words : List ℕ
  pub is : text ≡ refusal_text (intent_words i) words

-- what is wrong; if no alarm says so, serve and the store do not agree
abbrev pub trouble_by : Option Alarm → (port at : ℕ) → List ℕ
trouble_by (Some alarm) port at = alarm_words port at alarm
trouble_by None port at =
    codes "serve says otherwise than the store: a change is under way, or it has other files"

abbrev pub trouble_line : (port : ℕ) → View → List ℕ
trouble_line port v = trouble_by (trouble_of v) port v.at

abbrev pub dark_line : (port : ℕ) → View → Intent → List ℕ
dark_line port v i = refusal_text (intent_words i) (trouble_line port v)

abbrev pub IsHindered : (port : ℕ) → View → Intent → Hindrance → List ℕ → Type 0
IsHindered port v i hindrance.Dark text = text ≡ dark_line port v i
IsHindered port v i (hindrance.Why w) text = IsRefusal i text
IsHindered port v i (hindrance.Unsent u) text = text ≡ unsent_words u

-- ---- it was sent

-- the button of the last press; if the view has none, what was intended
abbrev pub pressed_by : Option Said → List Group → Intent → List ℕ
pressed_by (Some s) groups i = button_words groups s.button
pressed_by None groups i = intent_words i

abbrev pub pressed_words : List Group → View → Intent → List ℕ
pressed_words groups v i = pressed_by v.said groups i

abbrev pub became_line : (port : ℕ) → List ℕ → Became → List ℕ
became_line port pressed b = pressed ++ (codes ": " ++ became_words port b)

-- ---- each end

abbrev pub IsEnd : List Group → (port : ℕ) → View → Intent → End → List ℕ → Type 0
IsEnd groups port v i (end.Refused w) text = IsRefusal i text
IsEnd groups port v i (end.Hindered h) text = IsHindered port v i h text
IsEnd groups port v i (end.Became b) text = text ≡ became_line port (pressed_words groups v i) b

-- what was not sent is refused, or nobody knows enough; of what was sent what became of it decides
abbrev pub ending_of : End → Option Ending
ending_of (end.Refused w) = Some ending.Refused
ending_of (end.Hindered hindrance.Dark) = Some ending.Silent
ending_of (end.Hindered (hindrance.Why w)) = Some ending.Refused
ending_of (end.Hindered (hindrance.Unsent u)) = Some ending.Refused
ending_of (end.Became b) = ending_by b
