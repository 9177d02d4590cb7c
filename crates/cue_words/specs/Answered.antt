-- What devices have answered, why preparations are given up, how attempts end and what a recovery finds, in words.
use Rattle.std.specs.Prelude.{ℕ, List, codes}
use Rattle.cue_exchange.specs.declared.attempt.Answer.{Answer}
use Rattle.cue_exchange.specs.declared.attempt.Answer.TheVariants as answer
use Rattle.cue_exchange.specs.declared.attempt.Outcome.{Outcome}
use Rattle.cue_exchange.specs.declared.attempt.Outcome.TheVariants as outcome
use Rattle.cue_exchange.specs.declared.attempt.Reason.{Reason}
use Rattle.cue_exchange.specs.declared.attempt.Reason.TheVariants as reason
use Rattle.cue_exchange.specs.declared.attempt.Stage.{Stage}
use Rattle.cue_exchange.specs.declared.attempt.Stage.TheVariants.{Preparing, Decided, Cancelling}

-- a word for each answer, and no two the same
abbrev pub answer_words : Answer → List ℕ
answer_words answer.Waiting = codes "waiting"
answer_words answer.Ready = codes "ready"
answer_words answer.Done = codes "done"
answer_words answer.LetGo = codes "let go"
answer_words answer.Failed = codes "failed"
answer_words answer.Excused = codes "excused"

-- why a preparation was given up
abbrev pub reason_words : Reason → List ℕ
reason_words reason.Operator = codes "the operator gave it up"
reason_words reason.Deadline = codes "ten seconds passed"
reason_words reason.Abort = codes "a device aborted"
reason_words reason.Power = codes "the controller was started again"
reason_words reason.Release = codes "a device was released"

-- how an attempt ended
abbrev pub outcome_words : Outcome → List ℕ
outcome_words outcome.Complete = codes "complete"
outcome_words outcome.Cancelled = codes "cancelled"
outcome_words outcome.Failed = codes "failed"

-- what a recovery found an attempt at, and what becomes of it
abbrev pub recovered_words : Stage → List ℕ
recovered_words Preparing = codes "is preparing"
recovered_words Decided = codes "was given, GO is sent again"
recovered_words (Cancelling reason.Operator) = codes "was given up, CANCEL is sent again"
recovered_words (Cancelling reason.Deadline) = codes "was given up, CANCEL is sent again"
recovered_words (Cancelling reason.Abort) = codes "was given up, CANCEL is sent again"
recovered_words (Cancelling reason.Power) = codes "was preparing, given up"
recovered_words (Cancelling reason.Release) = codes "was given up, CANCEL is sent again"
