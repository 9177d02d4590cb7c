-- What is told of a command, byte for byte.
use Rattle.std.specs.Prelude.{ℕ, ℤ, pos, negsuc, List, ◌++◌, codes, decimal, Option, Some, None}
use Rattle.std.specs.Fmt.{signed_decimal}
use Rattle.std.specs.Option.{option_map_or}
use Rattle.cue_desk.specs.declared.orders.DeskCommand.{DeskCommand}
use Rattle.cue_desk.specs.declared.orders.DeskCommand.TheVariants as order
use Rattle.cue_desk.specs.declared.replying.Status.{Status}
use Rattle.cue_exchange.specs.declared.attempt.Outcome.{Outcome}
use Rattle.cue_exchange.specs.Outcomes.{outcome_numbered}
use Rattle.cue_words.specs.Answered.{outcome_words}
use Rattle.cue_words.specs.CodeWords.{number_words}
use Rattle.cue_order_words.specs.declared.told.Told.{Told}
use Rattle.cue_order_words.specs.declared.told.Told.TheVariants as told

-- ---- the status

-- the outcome with a number
abbrev pub outcome_in : ℤ → Option Outcome
outcome_in (pos n) = outcome_numbered n
outcome_in (negsuc n) = None

-- how the attempt that ended last did
abbrev pub ended_words : ℤ → List ℕ
ended_words outcome = option_map_or outcome_words (outcome_in outcome) (codes "none has ended")

-- the place; a dash if there is none
abbrev pub place_words : Option (List ℕ) → List ℕ
place_words (Some cue) = cue
place_words None = codes "-"

-- how the show stands: the attempt that was started last, how many are live, the place, and which one ended last and
-- how, in four lines
abbrev pub status_words : Status → List ℕ
status_words s =
    codes "last attempt " ++ (signed_decimal s.last ++ (codes "\nlive " ++ (signed_decimal s.live
    ++ (codes "\nplace " ++ (place_words s.place ++ (codes "\nended " ++ (signed_decimal s.ended
    ++ (codes ", " ++ ended_words s.outcome))))))))

-- ---- what became of it

-- it was refused by this code
abbrev pub refused_words : ℤ → List ℕ
refused_words code = codes "refused, code " ++ (signed_decimal code ++ (codes ": " ++ number_words code))

-- only some of several cues stand by: one was refused by this code
abbrev pub partly_words : ℤ → List ℕ
partly_words code =
    codes "NOT ALL of them stand by, code " ++ (signed_decimal code ++ (codes ": " ++ (number_words code
    ++ codes ": look at the board")))

-- nobody listens at the port
abbrev pub nobody_words : ℕ → List ℕ
nobody_words port = codes "nobody listens at 127.0.0.1:" ++ (decimal port ++ codes ": nothing was carried out")

-- a question changes nothing; of a command nobody can say that it was not carried out
abbrev pub open_words : DeskCommand → List ℕ
open_words order.Status = codes "is serve running, and not stopped?"
open_words _ = codes "it was carried out whole, or not at all, or will be when serve goes on: look at the board"

-- nobody replied, and this is known
abbrev pub silent_words : List ℕ → ℕ → List ℕ
silent_words known port =
    codes "nobody replied at 127.0.0.1:" ++ (decimal port ++ (codes " within a second: " ++ known))

-- what is told of this command, which was asked at this port
abbrev pub answer_words : Told → DeskCommand → ℕ → List ℕ
answer_words told.Made o port = codes "made"
answer_words told.Known o port = codes "known: it was so already"
answer_words (told.Refused code) o port = refused_words code
answer_words (told.Partly code) o port = partly_words code
answer_words (told.Status status) o port = status_words status
answer_words told.Nobody o port = nobody_words port
answer_words told.Silent o port = silent_words (open_words o) port
answer_words told.Unclear o port = codes "the reply does not say what became of it: look at the board"
