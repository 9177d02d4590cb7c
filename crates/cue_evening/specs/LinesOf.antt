-- The lines that the log makes of what it sees.
use Rattle.std.specs.Prelude.{ℕ, ◌-◌, ◌/◌, ◌%◌, Bool, ◌&&◌, ◌||◌, ◌==◌, if◌then◌else◌, List, [], ◌∷◌, ◌++◌, codes, Option, Some, None, nat_eq, nat_lt}
use Rattle.std.specs.List.{flat_map, list_any}
use Rattle.std.specs.Option.{option_map}
use Rattle.cue_core.specs.Codes.{code_number}
use Rattle.cue_core.specs.declared.command.Code.{Code}
use Rattle.cue_core.specs.declared.command.Code.TheVariants as code
use Rattle.cue_core.specs.declared.event.Event.{Event}
use Rattle.cue_core.specs.declared.event.Event.TheVariants as event
use Rattle.cue_engine.specs.declared.account.Order.{Order}
use Rattle.cue_engine.specs.declared.account.OrderKind.{OrderKind}
use Rattle.cue_engine.specs.declared.account.OrderKind.TheVariants as engine
use Rattle.cue_engine.specs.declared.account.Reply.{Reply}
use Rattle.cue_exchange.specs.declared.attempt.Attempt.{Attempt}
use Rattle.cue_exchange.specs.declared.attempt.Reason.{Reason}
use Rattle.cue_exchange.specs.declared.attempt.Reason.TheVariants as reason
use Rattle.cue_exchange.specs.declared.attempt.Stage.{Stage}
use Rattle.cue_exchange.specs.declared.attempt.Stage.TheVariants as stage
use Rattle.cue_log_lines.specs.Listed.{failures_text, found_text}
use Rattle.cue_log_lines.specs.declared.line.Count.{Count}
use Rattle.cue_log_lines.specs.declared.line.Line.{Line}
use Rattle.cue_log_lines.specs.declared.line.Line.TheVariants as line
use Rattle.cue_log_lines.specs.declared.line.OrderKind.{OrderKind as Kind}
use Rattle.cue_log_lines.specs.declared.line.OrderKind.TheVariants as order
use Rattle.cue_log_lines.specs.declared.line.Refused.{Refused}
use Rattle.cue_log_lines.specs.declared.line.Refused.TheVariants as refused
use Rattle.cue_log_lines.specs.declared.line.Span.{Span}
use Rattle.cue_log_lines.specs.declared.line.Try.{Try}
use Rattle.cue_log_lines.specs.declared.line.Why.{Why}
use Rattle.cue_log_lines.specs.declared.line.Why.TheVariants as why
use Rattle.cue_log_lines.specs.declared.listed.Failure.{Failure}
use Rattle.cue_log_lines.specs.declared.listed.Found.{Found}
use Rattle.cue_log_lines.specs.declared.listed.Found.TheVariants as found
use Rattle.cue_evening.specs.Alone.{named_device}
use Rattle.cue_evening.specs.Ends.{end_of}
use Rattle.cue_evening.specs.declared.course.Followed.{Followed}
use Rattle.cue_evening.specs.declared.refusals.Counted.{Counted}

-- the word for an order
abbrev pub kind_of : OrderKind → Kind
kind_of engine.Standby = order.Standby
kind_of engine.Go = order.Go
kind_of engine.Cancel = order.Cancel

-- the line of an order
abbrev pub order_line : Order → Option (List ℕ) → Bool → Line
order_line o cue sent = line.Ordered (record {
  kind = kind_of o.kind;
  attempt = record { number = o.attempt; cue = cue };
  device = o.device;
  port = o.port;
  is_sent = sent;
})

-- a time of so many milliseconds, in seconds and tenths
abbrev pub span_of : ℕ → Span
span_of millis = record { seconds = millis / 1000; tenths = millis % 1000 / 100 }

-- why a preparation was given up, by a device if it has one
abbrev pub why_of : Reason → Option ℕ → Why
why_of reason.Abort (Some device) = why.Aborted device
why_of reason.Abort None = why.Said reason.Abort
why_of reason.Release (Some device) = why.Released device
why_of reason.Release None = why.Said reason.Release
why_of reason.Operator device = why.Said reason.Operator
why_of reason.Deadline device = why.Said reason.Deadline
why_of reason.Power device = why.Said reason.Power

-- the line of an attempt that is given up
abbrev pub cancel_line : ℕ → Option (List ℕ) → Reason → Option ℕ → Line
cancel_line seq cue reason device = line.GivenUp (record { number = seq; cue = cue }) (why_of reason device)

-- an attempt as a line names it
abbrev pub try_of : Attempt → Try
try_of attempt = record { number = attempt.seq; cue = Some attempt.cue }

-- the line of an attempt that hangs on one device
abbrev pub alone_line : Attempt → ℕ → Line
alone_line attempt device = line.Alone (try_of attempt) device

-- the line of an attempt that began after the one with this number, if it hangs on one device
abbrev pub standby_line : ℕ → Attempt → Option Line
standby_line last attempt = option_map (alone_line attempt) (named_device last attempt)

-- the devices that the line of an end names: those that failed after the decision
abbrev pub failures_of : Stage → List Failure → List ℕ
failures_of stage.Preparing failures = []
failures_of stage.Decided failures = failures_text failures
failures_of (stage.Cancelling reason) failures = []

-- the line of an attempt that has ended at this moment
abbrev pub end_line : Followed → List ℕ → ℕ → Line
end_line f failures now = line.Ended (record {
  attempt = record { number = f.seq; cue = Some f.cue };
  outcome = end_of f.stage f.failures;
  failures = failures;
  span = span_of (now - f.since);
})

-- the line of a time in which nothing was taken
abbrev pub held_line : ℕ → Line
held_line millis = line.HeldUp (span_of millis)

-- how often something was counted up to this moment, and in which time
abbrev pub count_of : Counted → ℕ → Count
count_of counted now = record { times = counted.times; span = span_of (now - counted.since) }

-- what a recovery found
abbrev pub found_of : Stage → Found
found_of stage.Preparing = found.Preparing
found_of stage.Decided = found.Given
found_of (stage.Cancelling reason.Power) = found.Lost
found_of (stage.Cancelling reason.Operator) = found.GivenUp
found_of (stage.Cancelling reason.Deadline) = found.GivenUp
found_of (stage.Cancelling reason.Abort) = found.GivenUp
found_of (stage.Cancelling reason.Release) = found.GivenUp

-- an attempt that a recovery found
abbrev pub attempt_text : Attempt → List ℕ
attempt_text attempt = found_text (try_of attempt) (found_of attempt.stage)

-- the same after another one
abbrev pub next_text : Attempt → List ℕ
next_text attempt = codes "; " ++ attempt_text attempt

-- the attempts that a recovery found, with semicolons between them
abbrev pub recovered_text : List Attempt → List ℕ
recovered_text [] = []
recovered_text (first ∷ others) = attempt_text first ++ flat_map next_text others

-- the device that is done with by an event, since it failed or has given up
abbrev pub device_of_end : Event → Option ℕ
device_of_end (event.Failed seq device) = Some device
device_of_end (event.LetGo seq device) = Some device
device_of_end _ = None

-- the device by which a preparation was given up: the event after that says so
abbrev pub device_of_cancel : List Event → Option ℕ
device_of_cancel [] = None
device_of_cancel (e ∷ es) = device_of_end e

-- the address speaks to many: it has a sign of patterns
abbrev pub is_wide : List ℕ → Bool
is_wide address = list_any (λ b. b == 63 || b == 42 || b == 91 || b == 123) address

-- something was refused, and the first with this code
abbrev pub is_refused : Reply → Code → Bool
is_refused reply c = nat_lt 0 reply.counts.refused && nat_eq reply.code (code_number c)

-- the address speaks to many, and what was not made of it is no refusal: nothing was stood by there, or the arguments
-- were those of another method
abbrev pub has_bystanders : Reply → Bool
has_bystanders reply =
    (nat_lt 0 reply.counts.made || nat_lt 0 reply.counts.known)
    && ((is_refused reply code.NotLive || is_refused reply code.Arguments) && is_wide reply.address)

-- what a reply made nothing of
abbrev pub refused_of : Reply → Refused
refused_of reply =
    if nat_eq reply.counts.refused 0 then refused.Nothing
    else if has_bystanders reply then refused.Aside reply.counts.refused
    else refused.Some reply.counts.refused reply.code

-- the line of a reply, with these words for its address and for what is added
abbrev pub reply_line : Reply → Bool → List ℕ → List ℕ → Line
reply_line reply sent address more = line.Replied (record {
  port = reply.port;
  address = address;
  made = reply.counts.made;
  known = reply.counts.known;
  refused = refused_of reply;
  more = more;
  is_sent = sent;
}) None
