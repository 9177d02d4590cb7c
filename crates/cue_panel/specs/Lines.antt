-- The lines of a panel, byte for byte.
use Rattle.std.specs.Prelude.{◌≡◌, ℕ, if◌then◌else◌, nat_eq, List, ◌++◌, codes, Option, None, Some, string_bytes}
use Rattle.std.specs.Fmt.{decimal}
use Rattle.cue_board.specs.Alarms.{alarm_words}
use Rattle.cue_board.specs.Presses.{became_words, unsent_words}
use Rattle.cue_midi.specs.declared.heard.Kind.{Kind}
use Rattle.cue_midi.specs.declared.heard.Kind.TheVariants as kind
use Rattle.cue_panel.specs.declared.line.Line.{Line}
use Rattle.cue_panel.specs.declared.line.Line.TheVariants as line
use Rattle.cue_panel.specs.declared.lines.Lines.{Lines}
use Rattle.cue_panel.specs.declared.pending.What.{What}
use Rattle.cue_panel.specs.declared.taking.Source.{Source}
use Rattle.cue_panel.specs.declared.taking.Source.TheVariants as source
use Rattle.cue_press_words.specs.Words.{button_words, intent_words, key_words, trouble_of}
use Rattle.cue_presses.specs.declared.intent.Intent.{Intent}
use Rattle.cue_presses.specs.declared.keys.Keys.{Keys}
use Rattle.cue_presses.specs.declared.tally.Passed.{Passed}
use Rattle.cue_presses.specs.declared.tally.Passed.TheVariants as passed
use Rattle.cue_show_file.specs.declared.together.Group.{Group}
use Rattle.cue_view.specs.declared.button.Button.{Button}
use Rattle.cue_view.specs.declared.view.Alarm.{Alarm}
use Rattle.cue_view.specs.declared.view.Became.{Became}
use Rattle.cue_view.specs.declared.view.Unsent.{Unsent}
use Rattle.cue_view.specs.declared.view.View.{View}

-- ---- what is named

abbrev pub kind_words : Kind → List ℕ
kind_words kind.NoteOff = codes "notes off"
kind_words kind.KeyPressure = codes "key pressure"
kind_words kind.Program = codes "program changes"
kind_words kind.ChannelPressure = codes "channel pressure"
kind_words kind.PitchBend = codes "pitch bends"
kind_words kind.Common = codes "common messages"
kind_words kind.RealTime = codes "real time"
kind_words kind.Exclusive = codes "exclusive messages"
kind_words kind.Long = codes "long exclusive messages"
kind_words kind.Cut = codes "cut messages"

-- a message
abbrev pub passed_words : Passed → List ℕ
passed_words (passed.Note n) = codes "note " ++ decimal n
passed_words (passed.Controller n) = codes "controller " ++ decimal n
passed_words passed.Elsewhere = codes "show control for others"
passed_words (passed.Other k) = kind_words k

-- where an intent comes from
abbrev pub source_words : Source → List ℕ
source_words (source.Key p) = passed_words p
source_words source.Show = codes "show control"

-- what pressed what
abbrev pub what_words : List Group → What → List ℕ
what_words groups what = source_words what.source ++ (codes ": " ++ button_words groups what.button)

-- ---- each line

abbrev pub keys_text : (standby go cancel : List ℕ) → List ℕ
keys_text standby go cancel =
    standby ++ (codes " is STANDBY, " ++ (go ++ (codes " is GO, " ++ (cancel ++ codes " is CANCEL; Ctrl-C ends it"))))

abbrev pub keys_line : Keys → List ℕ
keys_line k = keys_text (key_words k.standby) (key_words k.go) (key_words k.cancel)

abbrev pub held_line : Passed → List ℕ
held_line p =
    passed_words p
    ++ codes ": nobody knows since when it is held: nothing is sent: let it go, then it presses"

abbrev pub not_taken_line : Passed → List ℕ
not_taken_line p = passed_words p ++ codes ": not taken, and only counted from now on"

abbrev pub tap_line : Source → List ℕ
tap_line s = source_words s ++ codes ": GO: a second tap within a second: nothing is sent"

abbrev pub tapped_line : List Group → What → List ℕ
tapped_line groups what = what_words groups what ++ codes ": a second tap within a second: nothing is sent"

-- no button is lit, for this reason
abbrev pub dark_line : List Group → (port at : ℕ) → What → Alarm → List ℕ
dark_line groups port at what alarm = what_words groups what ++ (codes ": not sent: " ++ alarm_words port at alarm)

abbrev pub unsent_line : List Group → What → Unsent → List ℕ
unsent_line groups what unsent = what_words groups what ++ (codes ": " ++ unsent_words unsent)

abbrev pub not_sent_by : Option Alarm → List Group → (port at : ℕ) → What → Unsent → List ℕ
not_sent_by (Some alarm) groups port at what unsent = dark_line groups port at what alarm
not_sent_by None groups port at what unsent = unsent_line groups what unsent

-- why a press was not sent: that no button is lit comes first
abbrev pub not_sent_line : List Group → (port : ℕ) → View → What → Unsent → List ℕ
not_sent_line groups port v what unsent = not_sent_by (trouble_of v) groups port v.at what unsent

abbrev pub unheard_line : List Group → Button → List ℕ
unheard_line groups b = button_words groups b ++ codes ": out of memory: nothing is sent"

abbrev pub became_line : List Group → (port : ℕ) → What → Became → List ℕ
became_line groups port what b = what_words groups what ++ (codes ": " ++ became_words port b)

abbrev pub presses_word : ℕ → List ℕ
presses_word n = if nat_eq n 1 then codes "press" else codes "presses"

abbrev pub waited_line : ℕ → List ℕ
waited_line n =
    decimal n ++ (codes " " ++ (presses_word n ++ codes " waited in the device, nobody knows how long: dropped"))

abbrev pub flooded_line : ℕ → List ℕ
flooded_line n = decimal n ++ (codes " " ++ (presses_word n ++ codes " more at once than fingers: dropped"))

-- the line of a command of show control that intends nothing; in which words it says why, this does not say
pub record IsSpoken (text : List ℕ) : Type 0 where
  pub words : List ℕ
  pub is : text ≡ codes "show control: " ++ words

abbrev pub unpressed_text : (source intent words : List ℕ) → List ℕ
unpressed_text source intent words =
    source ++ (codes ": " ++ (intent ++ (codes ": " ++ (words ++ codes ": nothing is sent"))))

-- the line of an intent that presses nothing; in which words it says why, this does not say
pub record IsNotPressed (s : Source) (i : Intent) (text : List ℕ) : Type 0 where
  pub words : List ℕ
  pub is : text ≡ unpressed_text (source_words s) (intent_words i) words

-- ---- all of them

-- the text of a line, for a controller at this port and cues that are stood by together, while this view is shown
abbrev pub IsLine : List Group → (port : ℕ) → View → Line → List ℕ → Type 0
IsLine groups port v (line.Keys k) text = text ≡ keys_line k
IsLine groups port v (line.Held p) text = text ≡ held_line p
IsLine groups port v (line.NotTaken p) text = text ≡ not_taken_line p
IsLine groups port v (line.Spoken sp) text = IsSpoken text
IsLine groups port v (line.Tap s) text = text ≡ tap_line s
IsLine groups port v (line.NotPressed s i w) text = IsNotPressed s i text
IsLine groups port v (line.Tapped what) text = text ≡ tapped_line groups what
IsLine groups port v (line.NotSent what unsent) text = text ≡ not_sent_line groups port v what unsent
IsLine groups port v (line.Unheard b) text = text ≡ unheard_line groups b
IsLine groups port v (line.Became what b) text = text ≡ became_line groups port what b
IsLine groups port v (line.Waited n) text = text ≡ waited_line n
IsLine groups port v (line.Flooded n) text = text ≡ flooded_line n

-- a line stands after the others, with its end
pub record SaysOne (v : View) (l : Line) (old new : Lines) : Type 0 where
  pub text : List ℕ
  pub is : IsLine old.together.now old.port v l text
  pub said : string_bytes new.text ≡ (string_bytes old.text ++ text) ++ codes "\n"
  pub together : new.together.now ≡ old.together.now
  pub port : new.port ≡ old.port

-- this is said, and nothing else
abbrev pub Says : View → Option Line → (old new : Lines) → Type 0
Says v (Some l) old new = SaysOne v l old new
Says v None old new = new ≡ old
