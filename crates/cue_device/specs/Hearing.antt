-- What a device makes of what it hears, and of what its machine reports.
use Rattle.std.specs.Prelude.{ℕ, Bool, true, false, ◌&&◌, if◌then◌else◌, Option, Some, None, nat_eq, nat_lt, is_none}
use Rattle.std.specs.Prelude.{is_some, Result, Ok, Err}
use Rattle.std.specs.Cmp.Lexicographic.{pointwise}
use Rattle.cue_show.specs.Number.{same_text}
use Rattle.cue_device.specs.declared.asked.Command.{Command}
use Rattle.cue_device.specs.declared.asked.Command.TheVariants.{Standby, Go, Cancel}
use Rattle.cue_device.specs.declared.asked.Task.{Task}
use Rattle.cue_device.specs.declared.hearing.Device.{Device}
use Rattle.cue_device.specs.declared.hearing.Heard.{Heard}
use Rattle.cue_device.specs.declared.hearing.ReportFault.{ReportFault}
use Rattle.cue_device.specs.declared.hearing.ReportFault.TheVariants.{NotOrdered}
use Rattle.cue_device.specs.declared.hearing.Told.{Told}
use Rattle.cue_device.specs.declared.hearing.Told.TheVariants.{Prepared, Moved, GaveUp, Cannot}
use Rattle.cue_device.specs.declared.hearing.Place.{Place}
use Rattle.cue_device.specs.declared.hearing.Place.TheVariants.{Over, Same, New}
use Rattle.cue_device.specs.declared.reports.Report.{Report}
use Rattle.cue_device.specs.declared.reports.Report.TheVariants as report
use Rattle.cue_device.specs.declared.phase.Attempt.{Attempt}
use Rattle.cue_device.specs.declared.phase.Phase.{Phase}
use Rattle.cue_device.specs.declared.phase.Cell.{Cell}
use Rattle.cue_device.specs.declared.words.Order.{Order}
use Rattle.cue_device.specs.declared.words.Order.TheVariants.{Prepare, Move, GiveUp}
use Rattle.cue_device.specs.declared.words.Answer.{Answer}
use Rattle.cue_device.specs.declared.words.Answer.TheVariants.{StandingBy, Complete, Cancelled, Abort}
use Rattle.cue_device.specs.Table.{same_standby, other_standby, same_go, same_cancel, new_number, answer_over}
use Rattle.cue_device.specs.Table.{prepared_in}
use Rattle.cue_device.specs.Table.{moved_in, gave_up_in, cannot_in}

-- ---- what a device is

-- a device whose machine is at rest; the numbers up to over are over
abbrev pub device_at_rest : ℕ → ℕ → Device
device_at_rest number over = record { number = number; last = over; attempt = None; doing = None; unheard = false }

-- A device that restarted, with its machine at rest: it has forgotten what it made of the number that it kept, and an
-- abort of it waits for its reply; 0 is no number.
abbrev pub device_restarted : ℕ → ℕ → Device
device_restarted number kept = record (device_at_rest number kept) { unheard = nat_lt 0 kept }

-- a device with these parts
abbrev pub with_parts : ℕ → ℕ → Option Attempt → Option Order → Bool → Device
with_parts number last attempt doing unheard = record {
  number = number;
  last = last;
  attempt = attempt;
  doing = doing;
  unheard = unheard;
}

-- the task of the attempt
abbrev pub task_now : Option Attempt → Option Task
task_now None = None
task_now (Some a) = a.task

-- the phase of the attempt
abbrev pub phase_now : Option Attempt → Option Phase
phase_now None = None
phase_now (Some a) = Some a.phase

-- the number of an order of the controller
abbrev pub seq_of : Command → ℕ
seq_of (Standby q task) = q
seq_of (Go q) = q
seq_of (Cancel q) = q

-- the task of an order of the controller
abbrev pub task_of : Command → Option Task
task_of (Standby q task) = Some task
task_of (Go q) = None
task_of (Cancel q) = None

-- the number of an order to the machine
abbrev pub ordered_for : Order → ℕ
ordered_for (Prepare q) = q
ordered_for (Move q) = q
ordered_for (GiveUp q) = q

-- the number of an answer
abbrev pub answered_for : Answer → ℕ
answered_for (StandingBy q) = q
answered_for (Complete q) = q
answered_for (Cancelled q) = q
answered_for (Abort q) = q

-- two tasks are the same: the cue, and the bytes
abbrev pub is_same_task : Task → Task → Bool
is_same_task s t = same_text s.cue t.cue && pointwise nat_eq s.bytes t.bytes

-- the task is the one that the attempt is for
abbrev pub is_for : Task → Option Task → Bool
is_for t None = false
is_for t (Some s) = is_same_task s t

-- the place of a number that is not above the last: the attempt's, if it is the last one
abbrev pub place_known : Bool → Option Attempt → Place
place_known is_last None = Over
place_known true (Some a) = Same a
place_known false (Some a) = Over

-- the place of a number: over, that of the attempt, or above all that the device has heard of
abbrev pub place : Device → ℕ → Place
place d q = if nat_lt d.last q then New else place_known (nat_eq q d.last) d.attempt

-- ---- what it hears

-- the row of the table for the attempt's own number
abbrev pub again : Attempt → Command → Cell
again a (Standby q task) = if is_for task a.task then same_standby q a.phase else other_standby q a.phase
again a (Go q) = same_go q a.phase
again a (Cancel q) = same_cancel q a.phase

-- the order whose end is not reported, once this was ordered
abbrev pub doing_after : Option Order → Option Order → Option Order
doing_after None doing = doing
doing_after (Some order) doing = Some order

-- the device has taken a cell in the attempt of its last number
abbrev pub after_cell : Option Task → Cell → Device → Device
after_cell task cell d = record d {
  attempt = Some (record { phase = cell.phase; task = task });
  doing = doing_after cell.order d.doing;
}

-- the device begins with a new number
abbrev pub begun : ℕ → Device → Device
begun q d = record d { last = q; unheard = false }

-- the device after an order of the controller, by the place of its number
abbrev pub after_at : Place → Command → Device → Device
after_at Over c d = d
after_at (Same a) c d = after_cell a.task (again a c) d
after_at New c d = after_cell (task_of c) (new_number (is_none d.doing) c) (begun (seq_of c) d)

-- what is ordered and answered
abbrev pub said_by : Cell → Heard
said_by cell = record { order = cell.order; answer = cell.answer }

-- what is ordered and answered, by the place of the number
abbrev pub heard_at : Place → Command → Device → Heard
heard_at Over c d = record { order = None; answer = Some (answer_over c) }
heard_at (Same a) c d = said_by (again a c)
heard_at New c d = said_by (new_number (is_none d.doing) c)

-- the device after an order of the controller
abbrev pub after_command : Command → Device → Device
after_command c d = after_at (place d (seq_of c)) c d

-- what comes of an order of the controller
abbrev pub what_comes_of : Command → Device → Heard
what_comes_of c d = heard_at (place d (seq_of c)) c d

-- ---- what its machine reports

-- the number of what is reported
abbrev pub told_of : Told → ℕ
told_of (Prepared q) = q
told_of (Moved q) = q
told_of (GaveUp q) = q
told_of (Cannot q) = q

-- what a machine reports of the attempt of this number
abbrev pub told_as : Report → ℕ → Told
told_as report.Prepared q = Prepared q
told_as report.Moved q = Moved q
told_as report.GaveUp q = GaveUp q
told_as report.Cannot q = Cannot q

-- the row of the table
abbrev pub told_in : Told → Phase → Cell
told_in (Prepared q) phase = prepared_in q phase
told_in (Moved q) phase = moved_in q phase
told_in (GaveUp q) phase = gave_up_in q phase
told_in (Cannot q) phase = cannot_in q phase

-- this is the end of a preparation, of a motion, of giving up: as it was ordered, or since the machine cannot go on
abbrev pub ends_preparing : ℕ → Told → Bool
ends_preparing p (Prepared q) = nat_eq p q
ends_preparing p (Moved q) = false
ends_preparing p (GaveUp q) = false
ends_preparing p (Cannot q) = nat_eq p q

abbrev pub ends_moving : ℕ → Told → Bool
ends_moving p (Prepared q) = false
ends_moving p (Moved q) = nat_eq p q
ends_moving p (GaveUp q) = false
ends_moving p (Cannot q) = nat_eq p q

abbrev pub ends_giving_up : ℕ → Told → Bool
ends_giving_up p (Prepared q) = false
ends_giving_up p (Moved q) = false
ends_giving_up p (GaveUp q) = nat_eq p q
ends_giving_up p (Cannot q) = nat_eq p q

-- this is the end of the order
abbrev pub ends : Order → Told → Bool
ends (Prepare p) told = ends_preparing p told
ends (Move p) told = ends_moving p told
ends (GiveUp p) told = ends_giving_up p told

-- the order whose end is not reported, once this was reported
abbrev pub left_after : Told → Option Order → Option Order
left_after told None = None
left_after told (Some order) = if ends order told then None else Some order

-- the device, once its machine reported the end of what it does
abbrev pub after_report : Told → Device → Device
after_report told d = record d { doing = left_after told d.doing }

-- an abort that nobody asked for waits for its reply
abbrev pub unheard_after : Told → Bool → Bool
unheard_after (Prepared q) unheard = unheard
unheard_after (Moved q) unheard = unheard
unheard_after (GaveUp q) unheard = unheard
unheard_after (Cannot q) unheard = true

-- the attempt with what was reported of it: if nothing is answered, nothing changes
abbrev pub attempt_with_report : Told → Option Task → Cell → Device → Device
attempt_with_report told task cell d = if is_some cell.answer then record (after_cell task cell d)
    { unheard = unheard_after told d.unheard } else d

-- the device after its machine reported something, by the place of the number
abbrev pub told_at : Place → Told → Device → Device
told_at Over told d = after_report told d
told_at (Same a) told d = attempt_with_report told a.task (told_in told a.phase) (after_report told d)
told_at New told d = after_report told d

-- what is answered, by the place of the number
abbrev pub answer_at : Place → Told → Option Answer
answer_at Over told = None
answer_at (Same a) told = (told_in told a.phase).answer
answer_at New told = None

-- the device after its machine reported something
abbrev pub after_told : Told → Device → Device
after_told told d = told_at (place d (told_of told)) told d

-- what is answered then
abbrev pub answer_told : Told → Device → Option Answer
answer_told told d = answer_at (place d (told_of told)) told

-- ---- when it may report

-- the number for which it reports: that of the order that it carries out; at rest, the last one
abbrev pub number_of : Option Order → ℕ → ℕ
number_of None last = last
number_of (Some order) last = ordered_for order

abbrev pub reported_for : Device → ℕ
reported_for d = number_of d.doing d.last

-- a report is in time if it is the end of the order; at rest, if it has an answer
abbrev pub in_time : Option Order → Told → Device → Bool
in_time None told d = is_some (answer_told told d)
in_time (Some order) told d = ends order told

abbrev pub is_in_time : Told → Device → Bool
is_in_time told d = in_time d.doing told d

-- the device after a report: at another time nothing changes
abbrev pub after_call : Told → Device → Device
after_call told d = if is_in_time told d then after_told told d else d

-- what is answered then
abbrev pub answer_call : Told → Device → Result (Option Answer) ReportFault
answer_call told d = if is_in_time told d then Ok (answer_told told d) else Err NotOrdered

-- ---- the abort that nobody asked for

-- what is answered at a tick
abbrev pub answer_ticked : Device → Option Answer
answer_ticked d = if d.unheard then Some (Abort d.last) else None

-- the device after a reply to an abort
abbrev pub after_reply : Device → Device
after_reply d = record d { unheard = false }
