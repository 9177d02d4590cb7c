-- What the report tells of an attempt, and what a line makes of it.
use Rattle.std.specs.Prelude.{ℕ, Bool, false, not, ◌&&◌, ◌++◌, if◌then◌else◌, List, [], ◌∷◌, Option, Some, None}
use Rattle.std.specs.Prelude.{is_some, zero, suc, codes, decimal, nat_eq, find, position, unwrap_or, slice_set}
use Rattle.std.specs.Prelude.{string_bytes}
use Rattle.cue_log_lines.specs.Listed.{failure_at}
use Rattle.cue_log_lines.specs.declared.line.Ended.{Ended as LineOfEnd}
use Rattle.cue_log_lines.specs.declared.line.Ordered.{Ordered}
use Rattle.cue_log_lines.specs.declared.line.OrderKind.{OrderKind}
use Rattle.cue_log_lines.specs.declared.line.OrderKind.TheVariants as order
use Rattle.cue_log_lines.specs.declared.line.Span.{Span}
use Rattle.cue_log_lines.specs.declared.line.Try.{Try}
use Rattle.cue_log_lines.specs.declared.line.Why.{Why}
use Rattle.cue_log_lines.specs.declared.line.Why.TheVariants as why
use Rattle.cue_log_lines.specs.declared.listed.Failure.{Failure}
use Rattle.cue_show.specs.declared.limits.TheConstants.{MAX_PARTS}
use Rattle.cue_words.specs.Answered.{reason_words}
use Rattle.cue_exchange.specs.declared.attempt.Outcome.{Outcome}
use Rattle.cue_operator.specs.declared.method.DeviceVerb.{DeviceVerb}
use Rattle.cue_operator.specs.declared.method.DeviceVerb.TheVariants as word
use Rattle.cue_report.specs.Following.{after_done, after_order, after_ready, fate_by, fate_of, first_moment}
use Rattle.cue_report.specs.declared.attempt.Attempt.{Attempt}
use Rattle.cue_report.specs.declared.course.Course.{Course}
use Rattle.cue_report.specs.declared.attempt.Ended.{Ended}
use Rattle.cue_report.specs.declared.course.Fate.{Fate}
use Rattle.cue_report.specs.declared.course.Fate.TheVariants as fate
use Rattle.cue_report.specs.declared.attempt.Moment.{Moment}
use Rattle.cue_report.specs.declared.attempt.Who.{Who}

-- what is seen of an attempt, wherever it lies in memory
pub record Seen : Type 0 where
  pub number : ℕ
  pub cue : Option (List ℕ)
  pub begun : Option Moment
  pub given : Option Moment
  pub given_up : Option Moment
  pub why : List ℕ
  pub ended : Option Ended
  pub after : Option Span
  pub devices : List Course

-- what is seen of an attempt of the code
abbrev pub seen : Attempt → Seen
seen a = record {
  number = a.number;
  cue = a.cue;
  begun = a.begun;
  given = a.given;
  given_up = a.given_up;
  why = string_bytes a.why;
  ended = a.ended;
  after = a.after;
  devices = a.devices.items;
}

-- an attempt of which only its number and its cue are known
abbrev pub new_of : Try → Seen
new_of t = record {
  number = t.number;
  cue = t.cue;
  begun = None;
  given = None;
  given_up = None;
  why = [];
  ended = None;
  after = None;
  devices = [];
}

-- an attempt was stood by: the first time counts
abbrev pub after_begin : ℕ → Who → Seen → Seen
after_begin at by a = record a { begun = first_moment a.begun at by }

-- an attempt was given: the first time counts
abbrev pub after_give : ℕ → Who → Seen → Seen
after_give at by a = record a { given = first_moment a.given at by }

-- an attempt was given up: the first time and its reason count
abbrev pub after_give_up : ℕ → Who → List ℕ → Seen → Seen
after_give_up at by why a =
    if is_some a.given_up then a else record a { given_up = first_moment a.given_up at by; why = why }

-- it was neither given nor given up, and has no end
abbrev pub is_preparing : Seen → Bool
is_preparing a = not (is_some a.given) && (not (is_some a.given_up) && not (is_some a.ended))

-- a device of which nothing is known yet
abbrev pub new_course : ℕ → Course
new_course device = record {
  device = device;
  asked = None;
  ready = None;
  sent = None;
  done = None;
  fate = fate.Well;
  is_unsent = false;
}

-- what a device did; nothing yet, if it is not there
unfoldable pub course_of : ℕ → List Course → Course
course_of device courses = unwrap_or (find (λ c. nat_eq c.device device) courses) (new_course device)

-- a thing takes the place of another, or stands at the end
abbrev pub put_at : {A : Type 0} → Option ℕ → A → List A → List A
put_at None x xs = xs ++ x ∷ []
put_at (Some place) x xs = slice_set xs place x

-- what a device did is now this
unfoldable pub put_course : Course → List Course → List Course
put_course course courses = put_at (position (λ c. nat_eq c.device course.device) courses) course courses

-- one device of an attempt is changed so
abbrev pub with_course : (Course → Course) → ℕ → Seen → Seen
with_course change device a = record a { devices = put_course (change (course_of device a.devices)) a.devices }

-- this became of a device
abbrev pub after_fate : Fate → Course → Course
after_fate fate c = record c { fate = fate }

-- an order to a device was sent: a first STANDBY begins the attempt, a first GO gives it
abbrev pub by_order : OrderKind → ℕ → Who → Seen → Seen
by_order order.Standby at by a = after_begin at by a
by_order order.Go at by a = after_give at by a
by_order order.Cancel at by a = a

-- what becomes of a device that aborts or is released, if the attempt was not given up before
abbrev pub after_failing : Option Fate → ℕ → Seen → Seen
after_failing None device a = a
after_failing (Some fate) device a = if is_some a.given_up then a else with_course (after_fate fate) device a

-- a device has answered, or was released
abbrev pub by_word : ℕ → DeviceVerb → ℕ → Seen → Seen
by_word at word.StandingBy device a = with_course (after_ready at) device a
by_word at word.Complete device a = with_course (after_done at) device a
by_word at word.Abort device a = after_failing (fate_by word.Abort (is_preparing a)) device a
by_word at word.Release device a = after_failing (fate_by word.Release (is_preparing a)) device a
by_word at word.Cancelled device a = a
by_word at word.Remove device a = a

-- the same; what has ended stays as it is
unfoldable pub after_word : ℕ → DeviceVerb → ℕ → Seen → Seen
after_word at word device a = if is_some a.ended then a else by_word at word device a

-- an order to a device of an attempt was sent
unfoldable pub after_ordered : ℕ → Who → Ordered → Seen → Seen
after_ordered at by o a = with_course (after_order o.kind at o.is_sent) o.device (by_order o.kind at by a)

-- a device failed, by the first of a list; nothing is left of a list that cannot be read
abbrev pub failure_taken : Option (Failure × List ℕ) → Seen → List ℕ × Seen
failure_taken None a = ([], a)
failure_taken (Some f) a = (f.1, with_course (after_fate (fate_of f.0.cause)) f.0.device a)

-- so many devices failed, by the front of a list
unfoldable pub failures_taken : ℕ → List ℕ → Seen → List ℕ × Seen
failures_taken zero text a = (text, a)
failures_taken (suc count) text a =
    let x = failures_taken count text a in failure_taken (failure_at x.0) x.1

-- an attempt has ended so: the last line counts
abbrev pub with_end : ℕ → Outcome → Span → Seen → Seen
with_end at outcome span a =
    record a { ended = Some (record { at = at; outcome = outcome }); after = Some span }

-- an attempt has ended, by its line, which has the devices that failed
unfoldable pub after_end : ℕ → LineOfEnd → Seen → Seen
after_end at e a = (failures_taken MAX_PARTS e.failures (with_end at e.outcome e.span a)).1

-- why an attempt was given up, in words
abbrev pub why_words : Why → List ℕ
why_words (why.Aborted device) = codes "device " ++ (decimal device ++ codes " aborted")
why_words (why.Released device) = codes "device " ++ (decimal device ++ codes " was released")
why_words (why.Said reason) = reason_words reason
