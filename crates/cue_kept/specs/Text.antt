-- The text of what a desk keeps of what went wrong. Each line ends with a line feed, and before each list stands how
-- many there are of it:
--
--   alarms 1
--   seen 1
--   attempt 12
--   failures 1
--   attempt 14
--   cue 7.5
--   outcome failed
--   reason none
--   failed 2
--   device 2
--   device 3
--   excused 0
use Rattle.std.specs.Prelude.{ℕ, List, [], ◌∷◌, ◌++◌, length, codes, decimal, Option, Some, None}
use Rattle.std.specs.List.{flat_map}
use Rattle.cue_exchange.specs.declared.attempt.Reason.{Reason}
use Rattle.cue_kept.specs.declared.TheConstants.{VERSION}
use Rattle.cue_view.specs.declared.view.Told.{Told}
use Rattle.cue_words.specs.Answered.{outcome_words, reason_words}
use Rattle.cue_kept.specs.Alarms.{Alarms}

-- a line: words, and what they say
unfoldable pub line_text : List ℕ → List ℕ → List ℕ
line_text words said = words ++ (said ++ 10 ∷ [])

-- a line of words and a number
abbrev pub number_line : List ℕ → ℕ → List ℕ
number_line words n = line_text words (decimal n)

-- an attempt
abbrev pub attempt_line : ℕ → List ℕ
attempt_line n = number_line (codes "attempt ") n

-- a device
abbrev pub device_line : ℕ → List ℕ
device_line n = number_line (codes "device ") n

-- the number of a cue; `none` if nobody knows it any more
abbrev pub cue_said : Option (List ℕ) → List ℕ
cue_said None = codes "none"
cue_said (Some cue) = cue

-- why a preparation was given up; `none` if it was not
abbrev pub reason_said : Option Reason → List ℕ
reason_said None = codes "none"
reason_said (Some reason) = reason_words reason

-- a list: how many there are, and the text of each
abbrev pub list_text : {A : Type 0} → List ℕ → (A → List ℕ) → List A → List ℕ
list_text words text items = number_line words (length items) ++ flat_map text items

-- devices, under these words
unfoldable pub devices_text : List ℕ → List ℕ → List ℕ
devices_text words devices = list_text words device_line devices

-- which devices failed, and which were excused
unfoldable pub parts_text : Told → List ℕ
parts_text t = devices_text (codes "failed ") t.failed ++ devices_text (codes "excused ") t.excused

-- how an attempt ended, and why
unfoldable pub end_text : Told → List ℕ
end_text t =
    line_text (codes "outcome ") (outcome_words t.outcome)
    ++ (line_text (codes "reason ") (reason_said t.reason) ++ parts_text t)

-- an attempt that ended
unfoldable pub told_text : Told → List ℕ
told_text t = attempt_line t.seq ++ (line_text (codes "cue ") (cue_said t.cue) ++ end_text t)

-- the text of what is kept: its version, what was seen, and the failures
unfoldable pub write : Alarms → List ℕ
write a =
    number_line (codes "alarms ") VERSION
    ++ (list_text (codes "seen ") attempt_line a.seen ++ list_text (codes "failures ") told_text a.failed)
