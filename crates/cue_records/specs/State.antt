-- The encoding of a state.
use Rattle.std.specs.Prelude.{◌≡◌, ℕ, ◌+◌, ◌==◌, Bool, true, false, ◌&&◌, if◌then◌else◌, List, [], ◌∷◌, ◌++◌, length}
use Rattle.std.specs.Prelude.{map, nat_le, Option, None, Some, is_none, IsTrue}
use Rattle.std.specs.List.{flat_map, list_all}
use Rattle.cue_show.specs.Show.{Cues, ShowLists}
use Rattle.cue_exchange.specs.declared.attempt.Answer.{Answer}
use Rattle.cue_exchange.specs.declared.attempt.Answer.TheVariants as answer
use Rattle.cue_exchange.specs.declared.attempt.Attempt.{Attempt}
use Rattle.cue_exchange.specs.declared.attempt.DeviceAnswer.{DeviceAnswer}
use Rattle.cue_exchange.specs.Outcomes.{outcome_number}
use Rattle.cue_exchange.specs.declared.attempt.Stage.{Stage}
use Rattle.cue_exchange.specs.declared.attempt.Stage.TheVariants.{Preparing, Decided, Cancelling}
use Rattle.cue_core.specs.declared.event.Ended.{Ended}
use Rattle.cue_core.specs.State.{ShowState, is_state}
use Rattle.cue_records.specs.declared.limits.TheConstants.{OLD_MAX_CUES}
use Rattle.cue_records.specs.declared.state.TheConstants.{VERSION, OLD_VERSION}
use Rattle.cue_records.specs.declared.parts_form.PartsForm.{PartsForm}
use Rattle.cue_records.specs.declared.parts_form.PartsForm.TheVariants.{Plain, Flagged}
use Rattle.cue_records.specs.Fields.{byte_text, short_text, number_text, time_text, text_text, entry_text}
use Rattle.cue_records.specs.Fields.{new_cue_text, reason_number, are_required}

-- ---- the show

-- a count in one byte, and so many devices
abbrev pub table_text : List (ℕ × ℕ) → List ℕ
table_text devices = byte_text (length devices) ++ flat_map entry_text devices

-- a count in two bytes, and so many cues
abbrev pub stack_text : PartsForm → Cues → List ℕ
stack_text form cues = short_text (length cues) ++ flat_map (new_cue_text form) cues

-- the place, or an empty text if there is none
abbrev pub place_text : Option (List ℕ) → List ℕ
place_text None = text_text []
place_text (Some c) = text_text c

-- the devices, the cues and the place
abbrev pub show_text : PartsForm → ShowLists → List ℕ
show_text form s = table_text s.devices ++ (stack_text form s.cues ++ place_text s.place)

-- ---- the attempts

-- the attempt that ended last and how, or zeros if none has
abbrev pub ended_text : Option Ended → List ℕ
ended_text None = number_text 0 ++ byte_text 0
ended_text (Some e) = number_text e.seq ++ byte_text (outcome_number e.outcome)

-- the number of a stage
abbrev pub stage_number : Stage → ℕ
stage_number Preparing = 1
stage_number Decided = 2
stage_number (Cancelling reason) = 2 + reason_number reason

-- the number of an answer
abbrev pub answer_number : Answer → ℕ
answer_number answer.Waiting = 0
answer_number answer.Ready = 1
answer_number answer.Done = 2
answer_number answer.LetGo = 3
answer_number answer.Failed = 4
answer_number answer.Excused = 5

-- one byte for each answer, in part order
abbrev pub answers_text : List DeviceAnswer → List ℕ
answers_text answers = map (λ x. answer_number x.answer) answers

-- a number, a cue, a time, a stage and the answers; the devices are those of the cue
abbrev pub attempt_text : Attempt → List ℕ
attempt_text a =
    number_text a.seq ++ (text_text a.cue
    ++ (time_text a.deadline ++ (byte_text (stage_number a.stage) ++ answers_text a.answers)))

-- a count in one byte, and so many attempts
abbrev pub live_text : List Attempt → List ℕ
live_text live = byte_text (length live) ++ flat_map attempt_text live

-- ---- the versions

-- the version whose encodings have parts of this form
abbrev pub version_number : PartsForm → ℕ
version_number Plain = OLD_VERSION
version_number Flagged = VERSION

-- the form of the parts in the version; none if there is no such version
abbrev pub form_of_version : ℕ → Option PartsForm
form_of_version n = if n == OLD_VERSION then Some Plain else if n == VERSION then Some Flagged else None

-- the bytes begin with the number of no version
abbrev pub is_other_version : List ℕ → Bool
is_other_version [] = false
is_other_version (b ∷ bytes) = is_none (form_of_version b)

-- the state has an encoding with parts of this form: with plain parts only if it has at most 256 cues, of required
-- parts alone
abbrev pub has_text : PartsForm → ShowState → Bool
has_text Plain s = nat_le (length s.show.cues) OLD_MAX_CUES && list_all (λ e. are_required e.1) s.show.cues
has_text Flagged s = true

-- ---- the state

-- the number of the version, the show, the last number, the attempt that ended last, and the live ones
abbrev pub text_in : PartsForm → ShowState → List ℕ
text_in form s =
    byte_text (version_number form) ++ (show_text form s.show
    ++ (number_text s.last_seq ++ (ended_text s.ended ++ live_text s.live)))

-- the encoding of a state as it is written, which each state has
abbrev pub state_text : ShowState → List ℕ
state_text s = text_in Flagged s

-- The bytes are an encoding of the state, in a form in which it has one.
pub record IsStateText (bytes : List ℕ) (s : ShowState) : Type 0 where
  pub form : PartsForm
  pub has : IsTrue (has_text form s)
  pub is : bytes ≡ text_in form s

-- the bytes are the encoding of no state
abbrev pub IsNoState : List ℕ → Type 0
IsNoState bytes = (s : ShowState) → IsTrue (is_state s) → IsStateText bytes s → ⊥
