-- The situations of the devices of an attempt, and their answers to it.
use Rattle.std.specs.Prelude.{◌≡◌, ◌≢◌, ℕ, Bool, true, false, is_some, IsTrue}
use Rattle.std.specs.List.{list_all}
use Rattle.cue_exchange.specs.declared.attempt.DeviceAnswer.{DeviceAnswer}
use Rattle.cue_exchange.specs.declared.attempt.Stage.{Stage}
use Rattle.cue_exchange.specs.Answers.{situation_of}
use Rattle.cue_exchange.specs.Live.{attempt_of}
use Rattle.cue_core.specs.declared.command.AnswerKind.{AnswerKind}
use Rattle.cue_core.specs.declared.command.Verdict.{Verdict}
use Rattle.cue_core.specs.declared.command.Verdict.TheVariants.{Made}
use Rattle.cue_core.specs.State.{ShowState, is_state}
use Rattle.cue_core.specs.Steps.{after_events}
use Rattle.cue_core.specs.Judge.{on_answer}

-- the device of an attempt of this stage is in one of the ten situations
abbrev pub has_situation : Stage → DeviceAnswer → Bool
has_situation stage x = is_some (situation_of stage x.answer)

-- Each device of each live attempt is in one of the ten situations, so the tables of answers and of release leave none
-- out.
abbrev pub EachHasASituation : Type 0
EachHasASituation =
    (s : ShowState) → IsTrue (is_state s) → IsTrue (list_all (λ a. list_all (has_situation a.stage) a.answers) s.live)

-- the command was carried out
abbrev pub is_made : Verdict → Bool
is_made Made = true
is_made _ = false

-- what an answer says, of which device to which attempt, and the port that it came from
pub record Said : Type 0 where
  pub from : ℕ
  pub kind : AnswerKind
  pub device : ℕ
  pub number : ℕ

-- the answer is carried out in the state
abbrev pub is_answer_made : ShowState → Said → Bool
is_answer_made s r = is_made (on_answer s r.from r.kind r.device r.number).0

-- the state after the answer was judged and its events were applied
abbrev pub after_said : ShowState → Said → ShowState
after_said s r = after_events s (on_answer s r.from r.kind r.device r.number).1

-- Two answers to one attempt by different devices, each carried out in the same state, give the same state in either
-- order.
abbrev pub AnswersCommute : Type 0
AnswersCommute =
    (s : ShowState) (r t : Said) → IsTrue (is_state s) → r.number ≡ t.number → r.device ≢ t.device
    → IsTrue (is_answer_made s r) → IsTrue (is_answer_made s t)
    → after_said (after_said s r) t ≡ after_said (after_said s t) r

-- what an answer to q leaves as it was: the show with its place, the last number, and every other attempt
pub record LeavesOthers (q : ℕ) (old new : ShowState) : Type 0 where
  pub show : new.show ≡ old.show
  pub last : new.last_seq ≡ old.last_seq
  pub others : (p : ℕ) → p ≢ q → attempt_of new.live p ≡ attempt_of old.live p

-- A device's answer leaves every other attempt, the show, the place and the last number as they were.
abbrev pub AnswersLeaveOthers : Type 0
AnswersLeaveOthers = (s : ShowState) (r : Said) → IsTrue (is_state s) → LeavesOthers r.number s (after_said s r)
