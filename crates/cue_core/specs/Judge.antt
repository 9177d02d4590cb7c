-- What becomes of a command: the first line that holds decides.
use Rattle.std.specs.Prelude.{ℕ, ◌+◌, Bool, true, false, not, ◌&&◌, if◌then◌else◌, List, [], ◌∷◌, is_some, nat_eq}
use Rattle.std.specs.Prelude.{nat_le, nat_lt}
use Rattle.std.specs.Option.{option_map_or}
use Rattle.cue_show.specs.declared.part.Part.{Part}
use Rattle.cue_show.specs.DeviceNumber.{is_device, is_port}
use Rattle.cue_show.specs.Number.{is_cue_number}
use Rattle.cue_show.specs.Parts.{are_parts, same_parts}
use Rattle.cue_show.specs.Show.{port_of, parts_of, has_cue, is_used, is_place, has_device, are_known, is_full}
use Rattle.cue_exchange.specs.declared.limits.TheConstants.{MAX_NUMBER}
use Rattle.cue_exchange.specs.declared.attempt.Answer.{Answer}
use Rattle.cue_exchange.specs.declared.attempt.Reason.TheVariants.{Operator, Abort, Release}
use Rattle.cue_exchange.specs.declared.attempt.Stage.{Stage}
use Rattle.cue_exchange.specs.declared.attempt.DeviceAnswer.{DeviceAnswer}
use Rattle.cue_exchange.specs.declared.attempt.Attempt.{Attempt}
use Rattle.cue_exchange.specs.declared.situation.Situation.{Situation}
use Rattle.cue_exchange.specs.declared.situation.Situation.TheVariants as situation
use Rattle.cue_exchange.specs.Answers.{is_preparing, is_decided, is_cancelling, situation_of, device_answer}
use Rattle.cue_exchange.specs.Live.{devices_in, attempt_of, attempt_of_cue, attempt_of_device, is_time, is_number}
use Rattle.cue_exchange.specs.Steps.{are_free, has_room, can_go_now}
use Rattle.cue_core.specs.declared.limits.TheConstants.{STANDBY_MS}
use Rattle.cue_core.specs.declared.event.Event.{Event}
use Rattle.cue_core.specs.declared.event.Event.TheVariants as event
use Rattle.cue_core.specs.declared.command.Code.{Code}
use Rattle.cue_core.specs.declared.command.Code.TheVariants as code
use Rattle.cue_core.specs.declared.command.AnswerKind.{AnswerKind}
use Rattle.cue_core.specs.declared.command.AnswerKind.TheVariants as answer_kind
use Rattle.cue_core.specs.declared.command.Command.{Command}
use Rattle.cue_core.specs.declared.command.Command.TheVariants as command
use Rattle.cue_core.specs.declared.command.Verdict.{Verdict}
use Rattle.cue_core.specs.declared.command.Verdict.TheVariants.{Made, Known, No}
use Rattle.cue_core.specs.State.{ShowState}

-- ---- what can be asked

-- the numbers, texts and parts of the command are ones that there are
abbrev pub is_fit : Command → Bool
is_fit command.Status = true
is_fit (command.AddDevice d port) = is_device d && is_port port
is_fit (command.AddCue c parts) = is_cue_number c && are_parts parts
is_fit (command.Standby c) = true
is_fit (command.Go c) = true
is_fit (command.Cancel c) = true
is_fit (command.Goto c) = true
is_fit (command.RemoveCue c) = true
is_fit (command.Reply kind d q) = is_number q
is_fit (command.Release d) = true
is_fit (command.RemoveDevice d) = true
is_fit (command.Bad c) = true

-- ---- what is answered

-- a verdict and its events
abbrev pub Judgement : Type 0
Judgement = Verdict × List Event

-- the command is carried out by these events
abbrev pub made_by : List Event → Judgement
made_by es = (Made, es)

-- the command says what is so already
abbrev pub known_already : Judgement
known_already = (Known, [])

-- the command is refused with a code
abbrev pub refused_with : Code → Judgement
refused_with c = (No c, [])

-- the first line whose test holds, and else the last word
abbrev pub first_line : List (Bool × Judgement) → Judgement → Judgement
first_line [] last = last
first_line (l ∷ ls) last = if l.0 then l.1 else first_line ls last

-- ---- the device table and the cue stack

-- a device enters the table with its port
abbrev pub on_add_device : ShowState → ℕ → ℕ → Judgement
on_add_device s d port =
    option_map_or (λ p. if nat_eq p port then known_already else refused_with code.Duplicate)
    (port_of s.show d) (made_by (event.Device d port ∷ []))

-- a device leaves the table, if no cue has a part for it
abbrev pub on_remove_device : ShowState → ℕ → Judgement
on_remove_device s d =
    first_line (
    (not (has_device s.show d), refused_with code.NoMethod)
    ∷ (is_used s.show d, refused_with code.InUse)
    ∷ [])
    (made_by (event.NoDevice d ∷ []))

-- a cue that is in the stack is known if its parts are the same
abbrev pub on_new_cue : ShowState → List ℕ → List Part → Judgement
on_new_cue s c parts =
    option_map_or (λ old. if same_parts old parts then known_already else refused_with code.Duplicate)
    (parts_of s.show c)
    (if is_full s.show then refused_with code.Full else made_by (event.Cue c parts ∷ []))

-- a cue comes to the end of the stack, if its devices are in the table
abbrev pub on_add_cue : ShowState → List ℕ → List Part → Judgement
on_add_cue s c parts = if not (are_known s.show parts) then refused_with code.UnknownDevice else on_new_cue s c parts

-- the operator goes to a cue
abbrev pub on_goto : ShowState → List ℕ → Judgement
on_goto s c =
    first_line (
    (not (has_cue s.show c), refused_with code.NoMethod)
    ∷ (is_place c s.show.place, known_already)
    ∷ [])
    (made_by (event.Place c ∷ []))

-- a cue leaves the stack, if no attempt at it is live
abbrev pub on_remove_cue : ShowState → List ℕ → Judgement
on_remove_cue s c =
    first_line (
    (not (has_cue s.show c), refused_with code.NoMethod)
    ∷ (is_some (attempt_of_cue s.live c), refused_with code.Busy)
    ∷ [])
    (made_by (event.NoCue c ∷ []))

-- ---- an attempt at a cue

-- the attempt at the cue is Preparing
abbrev pub prepares : ShowState → List ℕ → Bool
prepares s c = option_map_or (λ a. is_preparing a.stage) (attempt_of_cue s.live c) false

-- a cue of these parts is to be prepared
abbrev pub on_standby_of : ShowState → ℕ → List ℕ → List Part → Judgement
on_standby_of s now c parts =
    first_line (
    (prepares s c, known_already)
    ∷ (not (are_free (devices_in parts) s.live), refused_with code.Busy)
    ∷ (not (has_room s.live), refused_with code.Full)
    ∷ (nat_le MAX_NUMBER s.last_seq, refused_with code.Exhausted)
    ∷ (not (is_time (now + STANDBY_MS)), refused_with code.Clock)
    ∷ [])
    (made_by (event.Start (s.last_seq + 1) c (now + STANDBY_MS) ∷ []))

-- a cue is to be prepared
abbrev pub on_standby : ShowState → ℕ → List ℕ → Judgement
on_standby s now c = option_map_or (on_standby_of s now c) (parts_of s.show c) (refused_with code.NoMethod)

-- the attempt is to be carried out, once each of its devices may go
abbrev pub on_go_of : Attempt → Judgement
on_go_of a =
    first_line (
    (is_decided a.stage, known_already)
    ∷ (can_go_now a, made_by (event.Go a.seq ∷ []))
    ∷ [])
    (refused_with code.NotReady)

-- a cue is to be carried out
abbrev pub on_go : ShowState → List ℕ → Judgement
on_go s c =
    if not (has_cue s.show c) then refused_with code.NoMethod
    else option_map_or on_go_of (attempt_of_cue s.live c) (refused_with code.NotLive)

-- the attempt is to be given up, if it was not decided
abbrev pub on_cancel_of : Attempt → Judgement
on_cancel_of a =
    first_line (
    (is_decided a.stage, refused_with code.Decided)
    ∷ (is_cancelling a.stage, known_already)
    ∷ [])
    (made_by (event.Cancel a.seq Operator ∷ []))

-- a cue is to be given up
abbrev pub on_cancel : ShowState → List ℕ → Judgement
on_cancel s c =
    if not (has_cue s.show c) then refused_with code.NoMethod
    else option_map_or on_cancel_of (attempt_of_cue s.live c) (refused_with code.NotLive)

-- the operator waits no longer for a device of a Preparing attempt: an optional one is excused, and for a required
-- one the preparation is given up
abbrev pub release_early : ℕ → DeviceAnswer → Judgement
release_early q x =
    if x.optional then made_by (event.Excuse q x.device ∷ [])
    else made_by (event.Cancel q Release ∷ event.LetGo q x.device ∷ [])

-- the operator waits no longer for the device: the attempt, the device as it is recorded, and its situation
abbrev pub on_release_at : ℕ → DeviceAnswer → Situation → Judgement
on_release_at q x situation.AskedToStandBy = release_early q x
on_release_at q x situation.StandsBy = release_early q x
on_release_at q x situation.Excused = known_already
on_release_at q x situation.AskedToGo = made_by (event.Failed q x.device ∷ [])
on_release_at q x situation.Done = known_already
on_release_at q x situation.FailedAfterGo = known_already
on_release_at q x situation.LeftOut = known_already
on_release_at q x situation.AskedToLetGo = made_by (event.LetGo q x.device ∷ [])
on_release_at q x situation.LetGo = known_already
on_release_at q x situation.FailedAfterCancel = known_already

-- the same by the stage of the attempt and what the device has answered so far, which tell its situation: each device
-- of a live attempt has one (`EachHasASituation`)
abbrev pub on_release_in : ℕ → DeviceAnswer → Stage → Answer → Judgement
on_release_in q x stage given = option_map_or (on_release_at q x) (situation_of stage given) known_already

-- the operator waits no longer for a device of the attempt
abbrev pub on_release_of : ℕ → Attempt → Judgement
on_release_of d a =
    option_map_or (λ x. on_release_in a.seq x a.stage x.answer) (device_answer a.answers d) (refused_with code.NotLive)

-- the operator waits no longer for a device
abbrev pub on_release : ShowState → ℕ → Judgement
on_release s d =
    if not (has_device s.show d) then refused_with code.NoMethod
    else option_map_or (on_release_of d) (attempt_of_device s.live d) (refused_with code.NotLive)

-- ---- the table of answers: the attempt, the device as it is recorded, and its situation

-- the device says that it stands by
abbrev pub on_standing_by : ℕ → DeviceAnswer → Situation → Judgement
on_standing_by q x situation.AskedToStandBy = made_by (event.Ready q x.device ∷ [])
on_standing_by q x situation.StandsBy = known_already
on_standing_by q x situation.Excused = refused_with code.Stale
on_standing_by q x situation.AskedToGo = known_already
on_standing_by q x situation.Done = known_already
on_standing_by q x situation.FailedAfterGo = refused_with code.Stale
on_standing_by q x situation.LeftOut = refused_with code.Stale
on_standing_by q x situation.AskedToLetGo = refused_with code.Stale
on_standing_by q x situation.LetGo = refused_with code.Stale
on_standing_by q x situation.FailedAfterCancel = refused_with code.Stale

-- the device says that it has carried the cue out
abbrev pub on_complete : ℕ → DeviceAnswer → Situation → Judgement
on_complete q x situation.AskedToStandBy = refused_with code.Early
on_complete q x situation.StandsBy = refused_with code.Early
on_complete q x situation.Excused = refused_with code.Early
on_complete q x situation.AskedToGo = made_by (event.Done q x.device ∷ [])
on_complete q x situation.Done = known_already
on_complete q x situation.FailedAfterGo = refused_with code.Stale
on_complete q x situation.LeftOut = refused_with code.Stale
on_complete q x situation.AskedToLetGo = refused_with code.Stale
on_complete q x situation.LetGo = refused_with code.Stale
on_complete q x situation.FailedAfterCancel = refused_with code.Stale

-- the device says that it has given the preparation up
abbrev pub on_cancelled : ℕ → DeviceAnswer → Situation → Judgement
on_cancelled q x situation.AskedToStandBy = refused_with code.Early
on_cancelled q x situation.StandsBy = refused_with code.Early
on_cancelled q x situation.Excused = refused_with code.Early
on_cancelled q x situation.AskedToGo = refused_with code.Decided
on_cancelled q x situation.Done = refused_with code.Decided
on_cancelled q x situation.FailedAfterGo = refused_with code.Decided
on_cancelled q x situation.LeftOut = refused_with code.Decided
on_cancelled q x situation.AskedToLetGo = made_by (event.LetGo q x.device ∷ [])
on_cancelled q x situation.LetGo = known_already
on_cancelled q x situation.FailedAfterCancel = refused_with code.Stale

-- a device of a Preparing attempt cannot go on: an optional one is excused, and for a required one the preparation is
-- given up
abbrev pub abort_early : ℕ → DeviceAnswer → Judgement
abort_early q x =
    if x.optional then made_by (event.Excuse q x.device ∷ [])
    else made_by (event.Cancel q Abort ∷ event.Failed q x.device ∷ [])

-- a device of a Cancelling attempt cannot go on: of an optional one nothing more is asked, and a required one has
-- failed
abbrev pub abort_late : ℕ → DeviceAnswer → Judgement
abort_late q x = if x.optional then made_by (event.LetGo q x.device ∷ []) else made_by (event.Failed q x.device ∷ [])

-- the device says that it cannot go on
abbrev pub on_abort : ℕ → DeviceAnswer → Situation → Judgement
on_abort q x situation.AskedToStandBy = abort_early q x
on_abort q x situation.StandsBy = abort_early q x
on_abort q x situation.Excused = known_already
on_abort q x situation.AskedToGo = made_by (event.Failed q x.device ∷ [])
on_abort q x situation.Done = refused_with code.Stale
on_abort q x situation.FailedAfterGo = known_already
on_abort q x situation.LeftOut = known_already
on_abort q x situation.AskedToLetGo = abort_late q x
on_abort q x situation.LetGo = refused_with code.Stale
on_abort q x situation.FailedAfterCancel = known_already

-- each kind of answer has its column
abbrev pub on_answer_at : AnswerKind → ℕ → DeviceAnswer → Situation → Judgement
on_answer_at answer_kind.StandingBy = on_standing_by
on_answer_at answer_kind.Complete = on_complete
on_answer_at answer_kind.Cancelled = on_cancelled
on_answer_at answer_kind.Abort = on_abort

-- the same by the stage of the attempt and what the device has answered so far
abbrev pub on_answer_in : AnswerKind → ℕ → DeviceAnswer → Stage → Answer → Judgement
on_answer_in kind q x stage given =
    option_map_or (on_answer_at kind q x) (situation_of stage given) (refused_with code.Stale)

-- an answer of the device d to a live attempt
abbrev pub on_answer_to : AnswerKind → ℕ → Attempt → Judgement
on_answer_to kind d a =
    option_map_or (λ x. on_answer_in kind a.seq x a.stage x.answer) (device_answer a.answers d)
    (refused_with code.NotPart)

-- an answer that came from the port of another
abbrev pub is_from_another : ShowState → ℕ → ℕ → Bool
is_from_another s d from = option_map_or (λ port. not (nat_eq port from)) (port_of s.show d) true

-- an answer of the device d to the attempt q counts from the port of that device alone, and for a number that was
-- drawn
abbrev pub on_answer : ShowState → ℕ → AnswerKind → ℕ → ℕ → Judgement
on_answer s from kind d q =
    first_line (
    (not (has_device s.show d), refused_with code.NoMethod)
    ∷ (is_from_another s d from, refused_with code.WrongPort)
    ∷ (nat_lt s.last_seq q, refused_with code.Early)
    ∷ [])
    (option_map_or (on_answer_to kind d) (attempt_of s.live q) (refused_with code.Stale))

-- ---- all commands

-- what becomes of the command in the state, at the time now, from a port
abbrev pub judgement_of : ShowState → ℕ → ℕ → Command → Judgement
judgement_of s now from command.Status = known_already
judgement_of s now from (command.AddDevice d port) = on_add_device s d port
judgement_of s now from (command.AddCue c parts) = on_add_cue s c parts
judgement_of s now from (command.Standby c) = on_standby s now c
judgement_of s now from (command.Go c) = on_go s c
judgement_of s now from (command.Cancel c) = on_cancel s c
judgement_of s now from (command.Goto c) = on_goto s c
judgement_of s now from (command.RemoveCue c) = on_remove_cue s c
judgement_of s now from (command.Reply kind d q) = on_answer s from kind d q
judgement_of s now from (command.Release d) = on_release s d
judgement_of s now from (command.RemoveDevice d) = on_remove_device s d
judgement_of s now from (command.Bad c) = refused_with c
