-- A rehearsed device: how long its machine takes, and what it reports to the device at the end.
use Rattle.std.specs.Prelude.{◌≡◌, ℕ, ◌+◌, ◌-◌, List, Bool, true, false, Option, Some, None, Result, Ok, Err, nat_le}
use Rattle.std.specs.Prelude.{if◌then◌else◌}
use Rattle.cue_device.specs.declared.hearing.Device.{Device}
use Rattle.cue_device.specs.declared.hearing.Told.{Told}
use Rattle.cue_device.specs.declared.hearing.Told.TheVariants.{Prepared, Moved, GaveUp, Cannot}
use Rattle.cue_device.specs.declared.over_bytes.Meaning.{Meaning}
use Rattle.cue_device.specs.declared.over_bytes.Meaning.TheVariants.{Nothing}
use Rattle.cue_device.specs.declared.words.Answer.{Answer}
use Rattle.cue_device.specs.declared.words.Order.{Order}
use Rattle.cue_device.specs.declared.words.Order.TheVariants.{Prepare, Move, GiveUp}
use Rattle.cue_device.specs.declared.hearing.ReportFault.{ReportFault}
use Rattle.cue_device.specs.Hearing.{after_call, answer_call, reported_for}
use Rattle.cue_device.specs.Meanings.{Means, after_meaning, comes_of}
use Rattle.cue_rehearsal.specs.declared.manner.Behaviour.{Behaviour}
use Rattle.cue_rehearsal.specs.declared.manner.Behaviour.TheVariants.{Plays, Silent, Refuses, Fails}
use Rattle.cue_rehearsal.specs.declared.manner.Manner.{Manner}
use Rattle.cue_rehearsal.specs.declared.player.Player.{Player}
use Rattle.cue_rehearsal.specs.declared.player.Work.{Work}

-- the device hears nothing
abbrev pub is_silent : Behaviour → Bool
is_silent Plays = false
is_silent Silent = true
is_silent Refuses = false
is_silent Fails = false

-- the machine cannot carry this order out
abbrev pub breaks_at : Behaviour → Order → Bool
breaks_at Refuses (Prepare q) = true
breaks_at Fails (Move q) = true
breaks_at behaviour order = false

-- how long the machine always takes for an order
abbrev pub least_for : Manner → Order → ℕ
least_for m (Prepare q) = m.prepare
least_for m (Move q) = m.moving
least_for m (GiveUp q) = m.prepare

-- how long it takes this time
abbrev pub time_for : Manner → Order → ℕ → ℕ
time_for m order longer = least_for m order + longer

-- the machine begins with an order
abbrev pub begun : Manner → ℕ → ℕ → Order → Work
begun m now longer order = record { order = order; since = now; takes = time_for m order longer }

-- what the machine does: what was ordered last
abbrev pub work_after : (Order → Work) → Option Order → Option Work → Option Work
work_after begun None work = work
work_after begun (Some order) work = Some (begun order)

-- what a datagram is to a device that is played: nothing to a silent one
abbrev pub IsMeaningBy : Bool → ℕ → List ℕ → Meaning → Type 0
IsMeaningBy true number datagram meaning = meaning ≡ Nothing
IsMeaningBy false number datagram meaning = Means number datagram meaning

abbrev pub IsMeaning : Player → List ℕ → Meaning → Type 0
IsMeaning p datagram meaning = IsMeaningBy (is_silent p.manner.behaviour) p.device.number datagram meaning

-- the device heard this, and its machine begins with what it is ordered
abbrev pub after_hearing : ℕ → ℕ → Meaning → Player → Player
after_hearing now longer meaning p = record {
  device = after_meaning meaning p.device;
  manner = p.manner;
  work = work_after (begun p.manner now longer) (comes_of meaning p.device).order p.work;
}

-- the order whose end has come
abbrev pub due : ℕ → Option Work → Option Order
due now None = None
due now (Some work) = if nat_le work.takes (now - work.since) then Some work.order else None

-- what the machine reports, for this number, at the end of an order that it carries out
abbrev pub report_of : Order → ℕ → Told
report_of (Prepare q) n = Prepared n
report_of (Move q) n = Moved n
report_of (GiveUp q) n = GaveUp n

-- and at the end of any order
abbrev pub told_at_end : Behaviour → Order → ℕ → Told
told_at_end behaviour order n = if breaks_at behaviour order then Cannot n else report_of order n

-- a device whose machine is at rest
abbrev pub player_of : Device → Manner → Player
player_of d m = record { device = d; manner = m; work = None }

-- what it reports then, for the order that the device is doing
abbrev pub told_by : Order → Player → Told
told_by order p = told_at_end p.manner.behaviour order (reported_for p.device)

-- after the end of an order the machine is at rest, and the device knows what became of it
abbrev pub after_end : Order → Player → Player
after_end order p = record p { device = after_call (told_by order p) p.device; work = None }

-- the answer if a report was in time
abbrev pub answer_in : Result (Option Answer) ReportFault → Option Answer
answer_in (Ok answer) = answer
answer_in (Err fault) = None

-- what the device answers then
abbrev pub answer_at_end : Order → Player → Option Answer
answer_at_end order p = answer_in (answer_call (told_by order p) p.device)
