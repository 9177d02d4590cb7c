-- How attempts ended, in words, with the names of their devices.
use Rattle.std.specs.Prelude.{ℕ, ◌+◌, ◌==◌, count_by, length, map, List, [], ◌∷◌, ◌++◌, codes, Option, None, Some}
use Rattle.std.specs.Prelude.{if◌then◌else◌}
use Rattle.std.specs.Fmt.{decimal}
use Rattle.std.specs.List.{flat_map}
use Rattle.cue_exchange.specs.declared.attempt.Outcome.{Outcome}
use Rattle.cue_exchange.specs.declared.attempt.Outcome.TheVariants as outcome
use Rattle.cue_exchange.specs.declared.attempt.Reason.{Reason}
use Rattle.cue_words.specs.Answered.{outcome_words, reason_words}
use Rattle.cue_view.specs.declared.view.Contacted.{Contacted}
use Rattle.cue_view.specs.declared.view.Told.{Told}
use Rattle.cue_board.specs.Claims.{has_said, says_lines}
use Rattle.cue_columns.specs.Columns.{fit_of}
use Rattle.cue_board.specs.Names.{cue_name, device_name}
use Rattle.cue_board.specs.declared.ends.TheConstants.{NAME}
use Rattle.cue_board.specs.declared.names.Names.{Names}

-- why it was given up; nothing if it was not
abbrev pub why : Option Reason → List ℕ
why None = []
why (Some reason) = codes ": " ++ reason_words reason

-- its outcome, and why it was given up
abbrev pub end_front : Told → List ℕ
end_front t = outcome_words t.outcome ++ why t.reason

-- a space and a name, as much of it as has room; nothing if there is none
abbrev pub name_after : List ℕ → List ℕ
name_after name = if length name == 0 then [] else codes " " ++ fit_of NAME name

-- a device with its name, after these words
unfoldable pub device_words : Names → List ℕ → ℕ → List ℕ
device_words names words d = words ++ (codes " " ++ (decimal d ++ name_after (device_name names d)))

-- what a device did that failed: after a GO one that was released failed, too, and the store does not say which it was
abbrev pub did_words : Outcome → List ℕ
did_words outcome.Failed = codes " aborted or released"
did_words outcome.Cancelled = codes " aborted"
did_words outcome.Complete = codes " aborted"

-- a device that failed, and one that the cue went without
unfoldable pub failed_said : Names → Outcome → ℕ → List ℕ
failed_said names o d = device_words names (codes "       device") d ++ did_words o

-- the first one, and why it failed, if it says so
abbrev pub failed_lines : Names → List Contacted → Told → ℕ → List (List ℕ)
failed_lines names network t d = failed_said names t.outcome d ∷ says_lines network t.seq d

abbrev pub excused_said : Names → ℕ → List ℕ
excused_said names d = device_words names (codes "       without device") d

-- which attempt it is: its cue, or its number if the cue is not known any more
abbrev pub which : Names → Option (List ℕ) → ℕ → List ℕ
which names (Some cue) seq = codes "LAST   cue " ++ (cue ++ name_after (cue_name names cue))
which names None seq = codes "LAST   attempt " ++ decimal seq

unfoldable pub last_front : Names → Told → List ℕ
last_front names t = which names t.cue t.seq

-- which attempt it is, and how it ended
unfoldable pub told_said : Names → Told → List ℕ
told_said names t = last_front names t ++ (codes ": " ++ end_front t)

-- the same, and the lines of each device that failed and of each that it went without: none of them is cut away
abbrev pub told_lines : Names → List Contacted → Told → List (List ℕ)
told_lines names network t =
    told_said names t ∷ (flat_map (failed_lines names network t) t.failed ++ map (excused_said names) t.excused)

-- that none has ended
unfoldable pub none_said : List ℕ
none_said = codes "LAST   no attempt has ended yet"

-- the attempt that ended last
abbrev pub last_said : Names → List Contacted → Option Told → List (List ℕ)
last_said names network None = none_said ∷ []
last_said names network (Some t) = told_lines names network t

-- how many lines that takes
abbrev pub last_takes : List Contacted → Option Told → ℕ
last_takes network None = 1
last_takes network (Some t) =
    1 + (length t.failed + (count_by (has_said network t.seq) t.failed + length t.excused))
