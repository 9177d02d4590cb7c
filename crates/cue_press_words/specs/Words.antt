-- Keys, intents and buttons in words, and why nothing is lit.
use Rattle.std.specs.Prelude.{◌≡◌, ℕ, Bool, true, false, List, [], ◌∷◌, ◌++◌, codes, Option, None, Some, String}
use Rattle.std.specs.Prelude.{string_bytes, if◌then◌else◌}
use Rattle.std.specs.Fmt.{decimal}
use Rattle.std.specs.declared.alloc.Global.{Global}
use Rattle.cue_board.specs.Alarms.{alarm_words}
use Rattle.cue_board.specs.Together.{with_said}
use Rattle.cue_presses.specs.declared.intent.Intent.{Intent}
use Rattle.cue_presses.specs.declared.intent.Intent.TheVariants as intent
use Rattle.cue_presses.specs.declared.keys.Key.{Key}
use Rattle.cue_presses.specs.declared.keys.Key.TheVariants as key
use Rattle.cue_show_file.specs.declared.together.Group.{Group}
use Rattle.cue_show_file.specs.Together.{others_of}
use Rattle.cue_view.specs.declared.button.Button.{Button}
use Rattle.cue_view.specs.declared.button.Button.TheVariants as button
use Rattle.cue_view.specs.declared.view.Alarm.{Alarm}
use Rattle.cue_view.specs.declared.view.Alarm.TheVariants as alarm
use Rattle.cue_view.specs.declared.view.View.{View}

-- a key by its number
abbrev pub key_words : Key → List ℕ
key_words (key.Note n) = codes "note " ++ decimal n
key_words (key.Controller n) = codes "controller " ++ decimal n

-- a word, and the cue that it is of, if it is of one
abbrev pub named_words : List ℕ → Option (List ℕ) → List ℕ
named_words word (Some cue) = word ++ (codes " of cue " ++ cue)
named_words word None = word

-- what somebody intends, with the cue that was named
abbrev pub intent_words : Intent → List ℕ
intent_words (intent.Standby cue) = named_words (codes "STANDBY") cue
intent_words (intent.Go cue) = named_words (codes "GO") cue
intent_words intent.Cancel = codes "CANCEL"

-- STANDBY of a cue, with those that stand by together with it
abbrev pub standby_words : List Group → List ℕ → List ℕ
standby_words groups cue = codes "STANDBY of cue " ++ (cue ++ with_said (others_of groups cue))

-- a button, with what it is for
abbrev pub button_words : List Group → Button → List ℕ
button_words groups (button.Standby cue) = standby_words groups cue
button_words groups (button.Go cue q) = named_words (codes "GO") (Some cue)
button_words groups (button.Cancel cue q) = named_words (codes "CANCEL") (Some cue)
button_words groups (button.MoveTo cue) = named_words (codes "move") (Some cue)
button_words groups (button.Release q device) = codes "release of device " ++ decimal device
button_words groups (button.Choose q) = codes "choice of attempt " ++ decimal q
button_words groups (button.Seen q) = codes "attempt " ++ (decimal q ++ codes " was seen")

-- ---- why nothing is lit

-- the alarm says that no button is lit
abbrev pub is_dark : Alarm → Bool
is_dark alarm.NobodyListens = true
is_dark (alarm.Silent asked) = true
is_dark (alarm.OtherStore since) = true
is_dark (alarm.Unread why) = true
is_dark (alarm.Old read) = true
is_dark _ = false

-- the first that does
abbrev pub first_dark : List Alarm → Option Alarm
first_dark [] = None
first_dark (a ∷ others) = if is_dark a then Some a else first_dark others

abbrev pub trouble_of : View → Option Alarm
trouble_of v = first_dark v.alarms.items

-- the words of that alarm, if there is one
abbrev pub IsTrouble : Option Alarm → (port at : ℕ) → Option (String Global) → Type 0
IsTrouble None port at words = words ≡ None
IsTrouble (Some a) port at None = ⊥
IsTrouble (Some a) port at (Some words) = string_bytes words ≡ alarm_words port at a
