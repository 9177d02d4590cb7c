-- The state as `show` prints it.
use Rattle.std.specs.Prelude.{ℕ, List, [], ◌∷◌, ◌++◌, length, codes, decimal, Option, Some, None}
use Rattle.std.specs.List.{flat_map}
use Rattle.cue_core.specs.State.{ShowState}
use Rattle.cue_core.specs.declared.event.Ended.{Ended}
use Rattle.cue_show.specs.declared.part.Part.{Part}
use Rattle.cue_exchange.specs.declared.attempt.Attempt.{Attempt}
use Rattle.cue_exchange.specs.Outcomes.{outcome_number}
use Rattle.cue_exchange.specs.declared.attempt.Stage.{Stage}
use Rattle.cue_exchange.specs.declared.attempt.Stage.TheVariants.{Preparing, Decided, Cancelling}

-- the cue that the operator stands at, `-` if there is none
abbrev pub place_text : Option (List ℕ) → List ℕ
place_text None = codes "-"
place_text (Some cue) = cue

-- the number of the attempt that ended last, and how it ended; twice 0 if none has ended
abbrev pub ended_text : Option Ended → List ℕ
ended_text None = codes "0 0"
ended_text (Some ended) = decimal ended.seq ++ (32 ∷ decimal (outcome_number ended.outcome))

-- the line `device D PORT`
abbrev pub device_line : ℕ × ℕ → List ℕ
device_line entry = codes "device " ++ (decimal entry.0 ++ (32 ∷ decimal entry.1 ++ (10 ∷ [])))

-- the line `cue C PARTS`, with how many parts it has
abbrev pub cue_line : List ℕ × List Part → List ℕ
cue_line entry = codes "cue " ++ (entry.0 ++ (32 ∷ decimal (length entry.1) ++ (10 ∷ [])))

-- how far an attempt has come
abbrev pub stage_word : Stage → List ℕ
stage_word Preparing = codes "preparing"
stage_word Decided = codes "decided"
stage_word (Cancelling reason) = codes "cancelling"

-- the line `attempt Q C STAGE`
abbrev pub attempt_line : Attempt → List ℕ
attempt_line attempt =
    codes "attempt " ++ (decimal attempt.seq
    ++ (32 ∷ attempt.cue ++ (32 ∷ stage_word attempt.stage ++ (10 ∷ []))))

-- the first three lines
abbrev pub head_text : ShowState → List ℕ
head_text s = codes "last " ++ (decimal s.last_seq ++ (10 ∷
    codes "place " ++ (place_text s.show.place ++ (10 ∷
    codes "ended " ++ (ended_text s.ended ++ (10 ∷ []))))))

-- the first three lines, and a line for each device, each cue and each attempt
unfoldable pub show_text : ShowState → List ℕ
show_text s =
    head_text s ++ (flat_map device_line s.show.devices ++ (flat_map cue_line s.show.cues
    ++ flat_map attempt_line s.live))
