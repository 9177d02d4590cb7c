-- Helper: reading a state. Each encoding of a state (`State.antt`) is read as the state by the law
-- `states_are_read_back`, and nothing else is read, as `read_state` promises (`found`).
use Rattle.std.specs.Prelude.{◌≡◌, ℕ, zero, suc, Bool, ◌&&◌, ◌||◌, ◌==◌, if◌then◌else◌, List, [], ◌∷◌, length, nat_le}
use Rattle.std.specs.Prelude.{Option, None, Some, Result, Ok, Err}
use Rattle.std.specs.Int.{w16, w32, w64}
use Rattle.std.specs.Str.{bytes_eq}
use Rattle.cue_show.specs.Number.{is_cue_number}
use Rattle.cue_show.specs.Show.{ShowLists, empty_show, parts_of, is_place_of, can_add_device, can_add_cue, with_device}
use Rattle.cue_show.specs.Show.{with_cue, with_place}
use Rattle.cue_show.specs.declared.limits.TheConstants.{MAX_CUES}
use Rattle.cue_show.specs.declared.part.Part.{Part}
use Rattle.cue_exchange.specs.Steps.{are_below, can_put, with_attempt}
use Rattle.cue_exchange.specs.declared.attempt.Answer.{Answer}
use Rattle.cue_exchange.specs.declared.attempt.Answer.TheVariants as answer
use Rattle.cue_exchange.specs.declared.attempt.Attempt.{Attempt}
use Rattle.cue_exchange.specs.declared.attempt.DeviceAnswer.{DeviceAnswer}
use Rattle.cue_exchange.specs.Outcomes.{outcome_numbered}
use Rattle.cue_exchange.specs.declared.attempt.Reason.TheVariants.{Operator, Deadline, Abort, Power, Release}
use Rattle.cue_exchange.specs.declared.attempt.Stage.{Stage}
use Rattle.cue_exchange.specs.declared.attempt.Stage.TheVariants.{Preparing, Decided, Cancelling}
use Rattle.cue_core.specs.declared.event.Ended.{Ended}
use Rattle.cue_core.specs.State.{ShowState, is_state}
use Rattle.cue_records.specs.declared.fault.StateFault.{StateFault}
use Rattle.cue_records.specs.declared.fault.StateFault.TheVariants as fault
use Rattle.cue_records.specs.declared.limits.TheConstants.{OLD_MAX_CUES}
use Rattle.cue_records.specs.declared.parts_form.PartsForm.{PartsForm}
use Rattle.cue_records.specs.declared.parts_form.PartsForm.TheVariants.{Plain, Flagged}
use Rattle.cue_records.specs.Reading.{◌>>=◌, Reads, where_it, where_at, made_at, both_at, byte_at, number_at, text_at}
use Rattle.cue_records.specs.Reading.{sequence_at, cue_at, entry_at, new_cue_at}
use Rattle.cue_records.specs.State.{form_of_version, has_text, text_in}

-- what a function returned is what reading gives, unless memory ran out
abbrev pub GivesState : Result ShowState StateFault → Option ShowState → Type 0
GivesState (Ok s) read = read ≡ Some s
GivesState (Err fault.Version) read = read ≡ None
GivesState (Err fault.Malformed) read = read ≡ None
GivesState (Err fault.Memory) read = Unit {0}

-- ---- one after the other

-- one more is read and added, if it can be
abbrev pub added_at : {S A : Type 0} → (S → A → Bool) → (S → A → S) → Reads A → S → Reads S
added_at can add read s bytes = read bytes >>= λ x. where_it (can s x.0) (add s x.0, x.1)

-- so many steps, each from what the one before it has made
unfoldable pub fold_at : {S : Type 0} → (S → Reads S) → ℕ → S → Reads S
fold_at step zero s bytes = Some (s, bytes)
fold_at step (suc n) s bytes = step s bytes >>= λ x. fold_at step n x.0 x.1

-- ---- the show

-- one device more
unfoldable pub device_step : ShowLists → Reads ShowLists
device_step = added_at (λ s e. can_add_device s e.0 e.1) (λ s e. with_device s e.0 e.1) entry_at

-- one cue more
unfoldable pub cue_step : PartsForm → ShowLists → Reads ShowLists
cue_step form = added_at (λ s e. can_add_cue s e.0 e.1) (λ s e. with_cue s e.0 e.1) (new_cue_at form)

-- the place with the text; none if it is empty
abbrev pub place_of : List ℕ → Option (Option (List ℕ))
place_of [] = Some None
place_of (b ∷ bs) = where_it (is_cue_number (b ∷ bs)) (Some (b ∷ bs))

-- a place
unfoldable pub place_at : Reads (Option (List ℕ))
place_at = made_at place_of text_at

-- the place, if it is one of the show
unfoldable pub place_step : ShowLists → Reads ShowLists
place_step = added_at is_place_of with_place place_at

-- a count, and so many devices
unfoldable pub table_at : ShowLists → Reads ShowLists
table_at s bytes = byte_at bytes >>= λ n. fold_at device_step n.0 s n.1

-- the most cues of an encoding with parts of this form
abbrev pub most_cues : PartsForm → ℕ
most_cues Plain = OLD_MAX_CUES
most_cues Flagged = MAX_CUES

-- a count of cues, no more than such an encoding has
unfoldable pub cue_count_at : PartsForm → Reads ℕ
cue_count_at form = where_at (λ n. nat_le n (most_cues form)) (number_at w16)

-- a count, and so many cues
unfoldable pub stack_at : PartsForm → ShowLists → Reads ShowLists
stack_at form s bytes = cue_count_at form bytes >>= λ n. fold_at (cue_step form) n.0 s n.1

-- the devices, the cues and the place
unfoldable pub show_at : PartsForm → ShowLists → Reads ShowLists
show_at form s bytes = table_at s bytes >>= λ t. stack_at form t.0 t.1 >>= λ u. place_step u.0 u.1

-- ---- the attempts

-- the attempt with the number that ended so; none for two zeros
abbrev pub ended_of : ℕ × ℕ → Option (Option Ended)
ended_of x =
    if x.1 == 0 then where_it (x.0 == 0) None
    else (outcome_numbered x.1 >>= λ o. Some (Some (record { seq = x.0; outcome = o })))

-- the attempt that ended last
unfoldable pub ended_at : Reads (Option Ended)
ended_at = made_at ended_of (both_at (number_at w32) byte_at)

-- the stage with the number
abbrev pub stage_of : ℕ → Option Stage
stage_of n =
    if n == 1 then Some Preparing else if n == 2 then Some Decided else if n == 3 then Some (Cancelling Operator)
    else if n == 4 then Some (Cancelling Deadline) else if n == 5 then Some (Cancelling Abort)
    else if n == 6 then Some (Cancelling Power) else if n == 7 then Some (Cancelling Release) else None

-- a stage
unfoldable pub stage_at : Reads Stage
stage_at = made_at stage_of byte_at

-- the answer with the number
abbrev pub answer_of : ℕ → Option Answer
answer_of n =
    if n == 0 then Some answer.Waiting else if n == 1 then Some answer.Ready else if n == 2 then Some answer.Done
    else if n == 3 then Some answer.LetGo else if n == 4 then Some answer.Failed
    else if n == 5 then Some answer.Excused else None

-- one answer
unfoldable pub one_answer_at : Reads Answer
one_answer_at = made_at answer_of byte_at

-- an answer for the device of each part
unfoldable pub answers_at : List Part → Reads (List DeviceAnswer)
answers_at [] bytes = Some ([], bytes)
answers_at (p ∷ ps) bytes =
    one_answer_at bytes >>= λ a. answers_at ps a.1
    >>= λ xs. Some (record { device = p.device; optional = p.optional; answer = a.0 } ∷ xs.0, xs.1)

-- what stands before the answers of an attempt: a number, a cue, a time and a stage
unfoldable pub head_at : Reads (ℕ × (List ℕ × (ℕ × Stage)))
head_at = both_at sequence_at (both_at cue_at (both_at (number_at w64) stage_at))

-- an attempt at a cue of the show
unfoldable pub attempt_at : ShowLists → Reads Attempt
attempt_at show bytes =
    head_at bytes >>= λ h. parts_of show h.0.1.0 >>= λ ps. answers_at ps h.1 >>= λ xs. Some
    (record { seq = h.0.0; cue = h.0.1.0; deadline = h.0.1.1.0; stage = h.0.1.1.1; answers = xs.0 }, xs.1)

-- the attempt may follow these live ones
abbrev pub can_follow : List Attempt → Attempt → Bool
can_follow live a = are_below a.seq live && can_put a live

-- one attempt more
unfoldable pub attempt_step : ShowLists → List Attempt → Reads (List Attempt)
attempt_step show = added_at can_follow (λ live a. with_attempt a live) (attempt_at show)

-- a count, and so many attempts
unfoldable pub live_at : ShowLists → List Attempt → Reads (List Attempt)
live_at show live bytes = byte_at bytes >>= λ n. fold_at (attempt_step show) n.0 live n.1

-- what stands after the show, to the end: the last number, the attempt that ended last, and the live ones
unfoldable pub tail_of : ShowLists → List Attempt → List ℕ → Option (ℕ × (Option Ended × List Attempt))
tail_of show live bytes =
    number_at w32 bytes >>= λ q. ended_at q.1 >>= λ e. live_at show live e.1
    >>= λ all. where_it (length all.1 == 0) (q.0, (e.0, all.0))

-- ---- the state

-- the state, if it keeps the rules
abbrev pub where_state : ShowState → Option ShowState
where_state s = where_it (is_state s) s

-- what stands after the number of the version
unfoldable pub standing_of : PartsForm → List ℕ → Option ShowState
standing_of form bytes =
    show_at form empty_show bytes >>= λ show. tail_of show.0 [] show.1
    >>= λ t. where_state (record { show = show.0; live = t.1.1; last_seq = t.0; ended = t.1.0 })

-- the state whose encoding the bytes are
unfoldable pub state_of : List ℕ → Option ShowState
state_of [] = None
state_of (b ∷ bytes) = form_of_version b >>= λ form. standing_of form bytes

-- the bytes are the encoding of the state with parts of this form, and it has one
abbrev pub is_text_in : PartsForm → List ℕ → ShowState → Bool
is_text_in form bytes s = has_text form s && bytes_eq bytes (text_in form s)

-- the bytes are an encoding of the state
abbrev pub is_state_text : List ℕ → ShowState → Bool
is_state_text bytes s = is_text_in Flagged bytes s || is_text_in Plain bytes s
