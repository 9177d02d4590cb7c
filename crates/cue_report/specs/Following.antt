-- What the report makes of the lines of an attempt.
use Rattle.std.specs.Prelude.{ℕ, Bool, true, false, not, ◌||◌, Option, Some, None, ◌-◌}
use Rattle.cue_report.specs.declared.attempt.Moment.{Moment}
use Rattle.cue_report.specs.declared.attempt.Who.{Who}
use Rattle.cue_report.specs.declared.attempt.Who.TheVariants as who
use Rattle.cue_log_lines.specs.declared.listed.Cause.{Cause}
use Rattle.cue_log_lines.specs.declared.listed.Cause.TheVariants as cause
use Rattle.cue_log_lines.specs.declared.line.Count.{Count}
use Rattle.cue_operator.specs.declared.method.DeviceVerb.{DeviceVerb}
use Rattle.cue_operator.specs.declared.method.DeviceVerb.TheVariants as word
use Rattle.cue_report.specs.declared.course.Course.{Course}
use Rattle.cue_report.specs.declared.course.Fate.{Fate}
use Rattle.cue_report.specs.declared.course.Fate.TheVariants as fate
use Rattle.cue_log_lines.specs.declared.line.OrderKind.{OrderKind}
use Rattle.cue_log_lines.specs.declared.line.OrderKind.TheVariants as order

-- what became of a device that failed so
abbrev pub fate_of : Cause → Fate
fate_of cause.Aborted = fate.Aborted
fate_of cause.Released = fate.Released
fate_of cause.Unseen = fate.Failed

-- what becomes of a device that aborts or is released
abbrev pub fate_by : DeviceVerb → Bool → Option Fate
fate_by word.Abort true = Some fate.AbortedEarly
fate_by word.Abort false = Some fate.Aborted
fate_by word.Release true = Some fate.ReleasedEarly
fate_by word.Release false = Some fate.Released
fate_by word.StandingBy preparing = None
fate_by word.Complete preparing = None
fate_by word.Cancelled preparing = None
fate_by word.Remove preparing = None

-- for how many replies a line stands
abbrev pub times_of : Option Count → ℕ
times_of None = 1
times_of (Some count) = count.times

-- the seconds from one line to another, never below 0; none if one of them is not there
abbrev pub span : Option ℕ → Option ℕ → Option ℕ
span None to = None
span (Some from) None = None
span (Some from) (Some to) = Some (to - from)

-- what was seen first stays
abbrev pub first_of : Option ℕ → ℕ → Option ℕ
first_of (Some first) at = Some first
first_of None at = Some at

-- an order was sent to a device: what was sent first counts
abbrev pub after_order : OrderKind → ℕ → Bool → Course → Course
after_order order.Standby at is_sent c =
    record c { asked = first_of c.asked at; is_unsent = c.is_unsent || not is_sent }
after_order order.Go at is_sent c = record c { sent = first_of c.sent at; is_unsent = c.is_unsent || not is_sent }
after_order order.Cancel at is_sent c = record c { is_unsent = c.is_unsent || not is_sent }

-- a device stands by
abbrev pub after_ready : ℕ → Course → Course
after_ready at c = record c { ready = first_of c.ready at }

-- a device has carried the cue out
abbrev pub after_done : ℕ → Course → Course
after_done at c = record c { done = first_of c.done at }

-- the device failed after the go
abbrev pub is_failed : Fate → Bool
is_failed fate.Well = false
is_failed fate.AbortedEarly = false
is_failed fate.ReleasedEarly = false
is_failed fate.Aborted = true
is_failed fate.Released = true
is_failed fate.Failed = true

-- what was done first stays
abbrev pub first_moment : Option Moment → ℕ → Who → Option Moment
first_moment (Some first) at by = Some first
first_moment None at by = Some (record { at = at; by = by })

-- a device asked
abbrev pub is_device : Who → Bool
is_device (who.Device device) = true
is_device (who.Named name) = false
is_device (who.Port port) = false
is_device who.Unseen = false
