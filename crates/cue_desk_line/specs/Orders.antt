-- What the words of a command of an evening ask, or intend: the command by its name, and the cue or the device by the
-- word that `clap` found in its place.
use Rattle.std.specs.Prelude.{◌≡◌, ◌⊎◌, ℕ, List, ◌∷◌, codes, Option, Some, option_and_then, option_map}
use Rattle.std.specs.Str.Parse.{signed_digits_value}
use Rattle.clap.specs.Words.{first_value, found_of, matched_of, raw_values, rows_of, subcommand_rows}
use Rattle.clap.specs.declared.parser.matches.ArgMatches.{ArgMatches}
use Rattle.clap.specs.declared.parser.matches.ArgMatches.TheViews.{out-ArgMatches}
use Rattle.cue_show.specs.DeviceNumber.{device_of}
use Rattle.cue_desk.specs.Orders.{word_of}
use Rattle.cue_desk.specs.declared.orders.DeskCommand.{DeskCommand}
use Rattle.cue_desk.specs.declared.orders.DeskCommand.TheVariants as order
use Rattle.cue_desk_line.specs.declared.reading.words.Line.{Line}
use Rattle.cue_desk_line.specs.declared.reading.words.Line.TheVariants as line
use Rattle.cue_presses.specs.declared.intent.Intent.{Intent}
use Rattle.cue_presses.specs.declared.intent.Intent.TheVariants as intent

-- ---- what stands after the command

-- the cue, as it is written; and all cues, if there are several
abbrev pub cue_word : ArgMatches → Option (List ℕ)
cue_word m = first_value (found_of m) (codes "CUE")

abbrev pub cue_words : ArgMatches → Option (List (List ℕ))
cue_words m = option_map raw_values (matched_of (found_of m) (codes "CUE"))

-- the device with the number that a word is
abbrev pub device_by : List ℕ → Option ℕ
device_by word = device_of (signed_digits_value 10 word)

-- the device, by the number that is written
abbrev pub device_word : ArgMatches → Option ℕ
device_word m = option_and_then device_by (first_value (found_of m) (codes "DEVICE"))

-- ---- what is asked

-- the cue or the device of the command is the one that is written
abbrev pub IsNamed : ArgMatches → DeskCommand → Type 0
IsNamed m order.Status = Unit {0}
IsNamed m (order.OfCue verb cue) = cue_word m ≡ Some cue
IsNamed m (order.Release device) = device_word m ≡ Some device
IsNamed m (order.RemoveDevice device) = device_word m ≡ Some device

-- the command asks what the word says, of what is written after it
abbrev pub IsAskedBy : List ℕ → ArgMatches → Line → Type 0
IsAskedBy word m (line.Ask order port name) = (word_of order ≡ word) × IsNamed m order
IsAskedBy word m _ = ⊥

-- what is removed is the cue or the device that is written after the second word
abbrev pub IsRemovedBy : ArgMatches → Line → Type 0
IsRemovedBy m l =
    (of : ArgMatches) × ((option_map (λ p. p.1) (subcommand_rows (out-ArgMatches m).subcommand)
    ≡ Some (rows_of (found_of of))) × IsAskedBy (codes "remove") of l)

-- the command asks what the word says
abbrev pub IsSaidBy : List ℕ → ArgMatches → Line → Type 0
IsSaidBy word m l = IsAskedBy word m l ⊎ ((codes "remove" ≡ word) × IsRemovedBy m l)

-- ---- what is intended

-- the word of an intent
abbrev pub intent_text : Intent → List ℕ
intent_text (intent.Standby cue) = codes "standby"
intent_text (intent.Go cue) = codes "go"
intent_text intent.Cancel = codes "cancel"

-- the cue of an intent is the one that is written, if one is
abbrev pub IsIntended : ArgMatches → Intent → Type 0
IsIntended m (intent.Standby cue) = cue ≡ cue_word m
IsIntended m (intent.Go cue) = cue ≡ cue_word m
IsIntended m intent.Cancel = ⊥

-- the command intends what the word says; of several cues, each as it is written, `standby` alone can be asked
abbrev pub IsPressedBy : List ℕ → ArgMatches → Line → Type 0
IsPressedBy word m (line.Press p) = (intent_text p.intent ≡ word) × IsIntended m p.intent
IsPressedBy word m (line.StandBy cue others port name) =
    (codes "standby" ≡ word) × (cue_words m ≡ Some (cue ∷ others.items))
IsPressedBy word m _ = ⊥

-- the command asks or intends what the word says, of the cue or the device that is written after it
abbrev pub IsOfEvening : List ℕ → ArgMatches → Line → Type 0
IsOfEvening word m l = IsPressedBy word m l ⊎ IsSaidBy word m l
