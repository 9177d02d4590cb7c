-- What the devices of an attempt have answered, and what each stage makes of it.
use Rattle.std.specs.Prelude.{ℕ, Bool, true, false, not, ◌&&◌, ◌||◌, if◌then◌else◌, List, map, find, Option, None}
use Rattle.std.specs.Prelude.{Some, is_some, nat_eq}
use Rattle.std.specs.List.{list_any, list_all}
use Rattle.std.specs.Option.{option_map}
use Rattle.cue_show.specs.declared.part.Part.{Part}
use Rattle.cue_exchange.specs.declared.attempt.Answer.{Answer}
use Rattle.cue_exchange.specs.declared.attempt.Answer.TheVariants.{Waiting, Ready, Done, LetGo, Failed, Excused}
use Rattle.cue_exchange.specs.declared.attempt.Stage.{Stage}
use Rattle.cue_exchange.specs.declared.attempt.Stage.TheVariants.{Preparing, Decided, Cancelling}
use Rattle.cue_exchange.specs.declared.attempt.DeviceAnswer.{DeviceAnswer}
use Rattle.cue_exchange.specs.declared.situation.Situation.{Situation}
use Rattle.cue_exchange.specs.declared.situation.Situation.TheVariants as situation

-- ---- one answer

-- the device is still to answer
abbrev pub is_waiting : Answer → Bool
is_waiting Waiting = true
is_waiting _ = false

-- the device stands by
abbrev pub is_ready : Answer → Bool
is_ready Ready = true
is_ready _ = false

-- the device has carried the cue out
abbrev pub is_done : Answer → Bool
is_done Done = true
is_done _ = false

-- the cue may go without the device
abbrev pub is_excused : Answer → Bool
is_excused Excused = true
is_excused _ = false

-- ---- one stage

-- the devices are asked to stand by
abbrev pub is_preparing : Stage → Bool
is_preparing Preparing = true
is_preparing _ = false

-- the cue is carried out
abbrev pub is_decided : Stage → Bool
is_decided Decided = true
is_decided _ = false

-- the preparation is given up
abbrev pub is_cancelling : Stage → Bool
is_cancelling (Cancelling r) = true
is_cancelling _ = false

-- the cue is carried out or given up
abbrev pub is_concluding : Stage → Bool
is_concluding Preparing = false
is_concluding _ = true

-- the situation of a device of a live attempt, by the stage and its answer; none if the stage has no such answer
abbrev pub situation_of : Stage → Answer → Option Situation
situation_of Preparing Waiting = Some situation.AskedToStandBy
situation_of Preparing Ready = Some situation.StandsBy
situation_of Preparing Excused = Some situation.Excused
situation_of Decided Waiting = Some situation.AskedToGo
situation_of Decided Done = Some situation.Done
situation_of Decided Failed = Some situation.FailedAfterGo
situation_of Decided Excused = Some situation.LeftOut
situation_of (Cancelling r) Waiting = Some situation.AskedToLetGo
situation_of (Cancelling r) LetGo = Some situation.LetGo
situation_of (Cancelling r) Failed = Some situation.FailedAfterCancel
situation_of _ _ = None

-- the answers that a stage knows
abbrev pub is_known_in : Stage → Answer → Bool
is_known_in stage answer = is_some (situation_of stage answer)

-- what an answer becomes when its attempt enters the stage: each device is asked again, but for one that was excused,
-- which is asked nothing more
abbrev pub entering : Stage → Answer → Answer
entering Preparing Excused = Excused
entering Decided Excused = Excused
entering (Cancelling r) Excused = LetGo
entering _ _ = Waiting

-- ---- a device with its answer

-- the cue is not carried out without the device
abbrev pub is_required : DeviceAnswer → Bool
is_required x = not x.optional

-- the answer of the device may stand in the stage, and only an optional device is excused
abbrev pub may_be_in : Stage → DeviceAnswer → Bool
may_be_in stage x = is_known_in stage x.answer && not (is_required x && is_excused x.answer)

-- as far as the device goes, the cue may be carried out: it stands by, or was excused
abbrev pub may_go : DeviceAnswer → Bool
may_go x = is_ready x.answer || is_excused x.answer

-- as far as the device goes, the cue was carried out: by it, or without it
abbrev pub has_done : DeviceAnswer → Bool
has_done x = is_done x.answer || is_excused x.answer

-- the device may be excused: it is optional, and waits or stands by
abbrev pub can_be_excused : DeviceAnswer → Bool
can_be_excused x = x.optional && (is_waiting x.answer || is_ready x.answer)

-- the device is still to answer
abbrev pub waits : DeviceAnswer → Bool
waits x = is_waiting x.answer

-- the device of a part, as an attempt begins
abbrev pub first_answer : Part → DeviceAnswer
first_answer part = record { device = part.device; optional = part.optional; answer = Waiting }

-- the device d has answered, and each other one stays as it is
abbrev pub answers_with : ℕ → Answer → DeviceAnswer → DeviceAnswer
answers_with d answer x = record x { answer = if nat_eq x.device d then answer else x.answer }

-- the device, as its attempt enters the stage
abbrev pub enters : Stage → DeviceAnswer → DeviceAnswer
enters stage x = record x { answer = entering stage x.answer }

-- ---- the answers of an attempt, in part order

-- the answers of an attempt that begins
abbrev pub first_answers : List Part → List DeviceAnswer
first_answers parts = map first_answer parts

-- the answers, as the attempt enters the stage
abbrev pub answers_on_entry : Stage → List DeviceAnswer → List DeviceAnswer
answers_on_entry stage answers = map (enters stage) answers

-- the answers, once the device d has answered
abbrev pub with_answer : ℕ → Answer → List DeviceAnswer → List DeviceAnswer
with_answer d answer answers = map (answers_with d answer) answers

-- the device with its answer, if it is one of the attempt
abbrev pub device_answer : List DeviceAnswer → ℕ → Option DeviceAnswer
device_answer answers d = find (λ x. nat_eq x.device d) answers

-- what the device has answered, if it is one of the attempt
abbrev pub answer_of : List DeviceAnswer → ℕ → Option Answer
answer_of answers d = option_map (λ x. x.answer) (device_answer answers d)

-- the device is one of the attempt
abbrev pub is_one_of : ℕ → List DeviceAnswer → Bool
is_one_of d answers = list_any (λ x. nat_eq x.device d) answers

-- the device is one of the attempt, and its answer passes the test
abbrev pub answer_passes : (Answer → Bool) → ℕ → List DeviceAnswer → Bool
answer_passes test d answers = list_any (λ x. nat_eq x.device d && test x.answer) answers

-- the device is one of the attempt, and may be excused
abbrev pub is_excusable : ℕ → List DeviceAnswer → Bool
is_excusable d answers = list_any (λ x. nat_eq x.device d && can_be_excused x) answers

-- some device is required
abbrev pub has_required : List DeviceAnswer → Bool
has_required answers = list_any is_required answers

-- the cue may be carried out
abbrev pub all_may_go : List DeviceAnswer → Bool
all_may_go answers = list_all may_go answers

-- the cue was carried out
abbrev pub all_have_done : List DeviceAnswer → Bool
all_have_done answers = list_all has_done answers

-- some device is still to answer
abbrev pub some_waits : List DeviceAnswer → Bool
some_waits answers = list_any waits answers

-- the devices, in part order
abbrev pub devices_of : List DeviceAnswer → List ℕ
devices_of answers = map (λ x. x.device) answers
