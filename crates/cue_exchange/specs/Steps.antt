-- The steps of the exchange: when each may be taken, and what it makes of the live attempts.
use Rattle.std.specs.Prelude.{ℕ, Bool, not, ◌&&◌, ◌||◌, if◌then◌else◌, List, [], ◌∷◌, ◌++◌, length, map, filter, find}
use Rattle.std.specs.Prelude.{Option, is_none, nat_eq, nat_lt}
use Rattle.std.specs.List.{list_any, list_all}
use Rattle.std.specs.Option.{option_map}
use Rattle.cue_show.specs.Parts.{has_required_part}
use Rattle.cue_show.specs.declared.part.Part.{Part}
use Rattle.cue_exchange.specs.declared.attempt.Answer.{Answer}
use Rattle.cue_exchange.specs.declared.attempt.Stage.{Stage}
use Rattle.cue_exchange.specs.declared.attempt.Stage.TheVariants.{Preparing}
use Rattle.cue_exchange.specs.declared.attempt.Outcome.{Outcome}
use Rattle.cue_exchange.specs.declared.attempt.Outcome.TheVariants as outcome
use Rattle.cue_exchange.specs.declared.attempt.Attempt.{Attempt}
use Rattle.cue_exchange.specs.declared.limits.TheConstants.{MAX_LIVE}
use Rattle.cue_exchange.specs.Answers.{is_waiting, is_preparing, is_decided, is_cancelling, is_concluding}
use Rattle.cue_exchange.specs.Answers.{first_answers, answers_on_entry, with_answer, answer_passes, is_excusable}
use Rattle.cue_exchange.specs.Answers.{all_may_go}
use Rattle.cue_exchange.specs.Answers.{all_have_done, some_waits, devices_of}
use Rattle.cue_exchange.specs.Live.{distinct, disjoint, devices_in, is_number, is_time, is_attempt, has_number}
use Rattle.cue_exchange.specs.Live.{attempt_of_device}

-- ---- when a step may be taken

-- the attempt with the number q passes the test
abbrev pub holds : ℕ → (Attempt → Bool) → List Attempt → Bool
holds q test live = list_any (λ a. has_number q a && test a) live

-- the stage passes the test, and the device d is still to answer
abbrev pub waits_in : (Stage → Bool) → ℕ → Attempt → Bool
waits_in stage d a = stage a.stage && answer_passes is_waiting d a.answers

-- none of the devices is in a live attempt
abbrev pub are_free : List ℕ → List Attempt → Bool
are_free ds live = list_all (λ d. is_none (attempt_of_device live d)) ds

-- one more attempt may be live
abbrev pub has_room : List Attempt → Bool
has_room live = nat_lt (length live) MAX_LIVE

-- the number q is above those of the live attempts
abbrev pub are_below : ℕ → List Attempt → Bool
are_below q live = list_all (λ a. nat_lt a.seq q) live

-- some part is required, and no device is there twice
abbrev pub are_sound_parts : List Part → Bool
are_sound_parts parts = has_required_part parts && distinct (devices_in parts)

-- an attempt with the number q and the deadline t may begin with the devices of the parts: there is room, its number
-- is above those of the live attempts, and none of its devices is in one
abbrev pub can_start : ℕ → ℕ → List Part → List Attempt → Bool
can_start q t parts live =
    is_number q && (is_time t && (has_room live
    && (are_below q live && (are_free (devices_in parts) live && are_sound_parts parts))))

-- the device d is asked by q to stand by, and has not answered
abbrev pub can_ready : ℕ → ℕ → List Attempt → Bool
can_ready q d live = holds q (waits_in is_preparing d) live

-- the attempt is Preparing, and the device d is an optional one of it that waits or stands by
abbrev pub can_excuse_now : ℕ → Attempt → Bool
can_excuse_now d a = is_preparing a.stage && is_excusable d a.answers

-- q is Preparing, and the device d is an optional one of it that waits or stands by
abbrev pub can_excuse : ℕ → ℕ → List Attempt → Bool
can_excuse q d live = holds q (can_excuse_now d) live

-- the attempt is Preparing, and each of its devices may go
abbrev pub can_go_now : Attempt → Bool
can_go_now a = is_preparing a.stage && all_may_go a.answers

-- q is Preparing, and each of its devices may go
abbrev pub can_go : ℕ → List Attempt → Bool
can_go q live = holds q can_go_now live

-- q is Preparing
abbrev pub can_cancel : ℕ → List Attempt → Bool
can_cancel q live = holds q (λ a. is_preparing a.stage) live

-- q is Decided, and the device d has not answered
abbrev pub can_done : ℕ → ℕ → List Attempt → Bool
can_done q d live = holds q (waits_in is_decided d) live

-- q is Cancelling, and the device d has not answered
abbrev pub can_let_go : ℕ → ℕ → List Attempt → Bool
can_let_go q d live = holds q (waits_in is_cancelling d) live

-- q is Decided or Cancelling, and the device d has not answered
abbrev pub can_fail : ℕ → ℕ → List Attempt → Bool
can_fail q d live = holds q (waits_in is_concluding d) live

-- the numbers differ, and no device is in both
abbrev pub is_apart : Attempt → Attempt → Bool
is_apart a b = not (nat_eq b.seq a.seq) && disjoint (devices_of b.answers) (devices_of a.answers)

-- the attempts are live with one more: there is room, it keeps the rules of one, and is apart from each other one
abbrev pub can_put : Attempt → List Attempt → Bool
can_put a live = has_room live && (is_attempt a && list_all (is_apart a) live)

-- ---- what a step makes of the attempts

-- the attempt with the number q is changed, and each other one stays as it is
abbrev pub with_change : ℕ → (Attempt → Attempt) → Attempt → Attempt
with_change q change a = if has_number q a then change a else a

-- the device d of the attempt has answered
abbrev pub answers_as : ℕ → Answer → Attempt → Attempt
answers_as d answer a = record a { answers = with_answer d answer a.answers }

-- the attempt enters the stage
abbrev pub moves_to : Stage → Attempt → Attempt
moves_to stage a = record a { stage = stage; answers = answers_on_entry stage a.answers }

-- an attempt at the cue c, as it begins
abbrev pub new_attempt : ℕ → List ℕ → ℕ → List Part → Attempt
new_attempt q c t parts = record { seq = q; cue = c; deadline = t; stage = Preparing; answers = first_answers parts }

-- the attempts, once q has begun
abbrev pub after_start : ℕ → List ℕ → ℕ → List Part → List Attempt → List Attempt
after_start q c t parts live = live ++ new_attempt q c t parts ∷ []

-- the attempts, once the device d has answered in q
abbrev pub after_answer : ℕ → ℕ → Answer → List Attempt → List Attempt
after_answer q d answer live = map (with_change q (answers_as d answer)) live

-- the attempts, once q has entered the stage
abbrev pub after_move : ℕ → Stage → List Attempt → List Attempt
after_move q stage live = map (with_change q (moves_to stage)) live

-- the attempt is not q, or has a device that is still to answer
abbrev pub goes_on : ℕ → Attempt → Bool
goes_on q a = not (has_number q a) || some_waits a.answers

-- the attempts without q, if q has no device that is still to answer
abbrev pub without_ended : ℕ → List Attempt → List Attempt
without_ended q live = filter (goes_on q) live

-- how an attempt ends
abbrev pub outcome_of : Attempt → Outcome
outcome_of a =
    if is_cancelling a.stage then outcome.Cancelled
    else (if all_have_done a.answers then outcome.Complete else outcome.Failed)

-- how q ends, if it has no device that is still to answer
abbrev pub ended_in : ℕ → List Attempt → Option Outcome
ended_in q live = option_map outcome_of (find (λ a. not (goes_on q a)) live)

-- the attempts with one more, at its place by number
abbrev pub with_attempt : Attempt → List Attempt → List Attempt
with_attempt a [] = a ∷ []
with_attempt a (b ∷ bs) = if nat_lt a.seq b.seq then a ∷ b ∷ bs else b ∷ with_attempt a bs
