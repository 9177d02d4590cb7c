-- A rehearsed device at its socket: what happens to it, and what is due of it.
use Rattle.std.specs.Prelude.{◌≡◌, ℕ, ◌+◌, ◌-◌, ◌^◌, ◌&&◌, Bool, true, false, nat_le, nat_lt, min, if◌then◌else◌}
use Rattle.std.specs.Prelude.{List, Option}
use Rattle.std.specs.Prelude.{Some, None}
use Rattle.cue_machine.specs.declared.address.Address.{Address}
use Rattle.cue_device.specs.declared.hearing.Device.{Device}
use Rattle.cue_device.specs.declared.over_bytes.Meaning.{Meaning}
use Rattle.cue_device.specs.declared.over_bytes.Meaning.TheVariants as meaning
use Rattle.cue_device.specs.declared.words.Answer.{Answer}
use Rattle.cue_device.specs.declared.words.Order.{Order}
use Rattle.cue_device.specs.Datagrams.{IsFor, IsForNone, IsReply}
use Rattle.cue_device.specs.Hearing.{answer_ticked, device_at_rest}
use Rattle.cue_device.specs.Histories.{Happening, after, answer_to, hears, hears_reply, order_at, repeats, restarts}
use Rattle.cue_device.specs.Histories.{tells}
use Rattle.cue_rehearsal.specs.declared.manner.Manner.{Manner}
use Rattle.cue_rehearsal.specs.declared.player.Player.{Player}
use Rattle.cue_rehearsal.specs.declared.player.Work.{Work}
use Rattle.cue_rehearsal.specs.Playing.{after_end, answer_at_end, begun, due, is_silent, player_of, told_by, work_after}
use Rattle.cue_rehearsal_machine.specs.declared.seat.Due.{Due}
use Rattle.cue_rehearsal_machine.specs.declared.seat.Due.TheVariants.{Ends, Repeats}
use Rattle.cue_rehearsal_machine.specs.declared.seat.Role.{Role}
use Rattle.cue_rehearsal_machine.specs.declared.seat.Seat.{Seat}
use Rattle.cue_rehearsal_machine.specs.declared.seat.TheConstants.{REPEAT}

-- a device that has heard of no attempt, at its address
abbrev pub seat_of : ℕ → Manner → Address → Seat
seat_of n m a = record { player = player_of (device_at_rest n 0) m; controller = a; said = 0 }

abbrev pub seat_in : Role → Seat
seat_in r = seat_of r.device r.manner r.address

-- ---- what happens to a device

-- the device once this happened to it, if something did
abbrev pub after_what : Option Happening → Device → Device
after_what None d = d
after_what (Some h) d = after h d

-- what its machine is ordered then
abbrev pub ordered_at : Option Happening → Device → Option Order
ordered_at None d = None
ordered_at (Some h) d = order_at h d

-- what it answers then
abbrev pub answered_at : Option Happening → Device → Option Answer
answered_at None d = None
answered_at (Some h) d = answer_to h d

-- ---- a datagram

-- what a datagram is to the device of this number: an order, a reply to its abort, or nothing
abbrev pub IsMeant : ℕ → List ℕ → Option Happening → Type 0
IsMeant n bytes None = IsForNone n bytes × (IsReply n bytes → ⊥)
IsMeant n bytes (Some (hears c)) = IsFor n bytes c
IsMeant n bytes (Some hears_reply) = IsReply n bytes
IsMeant n bytes (Some (tells t)) = ⊥
IsMeant n bytes (Some repeats) = ⊥
IsMeant n bytes (Some (restarts k)) = ⊥

-- what happens to a device that hears a datagram which means this
abbrev pub what_of : Meaning → Option Happening
what_of (meaning.Order c) = Some (hears c)
what_of meaning.Reply = Some hears_reply
what_of meaning.Nothing = None

-- what it is to a device that is played: nothing to a silent one
abbrev pub IsHeardBy : Bool → ℕ → List ℕ → Option Happening → Type 0
IsHeardBy true n bytes what = what ≡ None
IsHeardBy false n bytes what = IsMeant n bytes what

abbrev pub IsHeard : Player → List ℕ → Option Happening → Type 0
IsHeard p bytes what = IsHeardBy (is_silent p.manner.behaviour) p.device.number bytes what

-- who ordered the machine last
abbrev pub ordered_by : Address → Option Order → Address → Address
ordered_by from None before = before
ordered_by from (Some order) before = from

-- the device, its machine, and who ordered it, once it heard a datagram from there which is this to it
abbrev pub seat_heard : ℕ → ℕ → Address → Option Happening → Seat → Seat
seat_heard now longer from what s = record {
  player = record {
    device = after_what what s.player.device;
    manner = s.player.manner;
    work = work_after (begun s.player.manner now longer) (ordered_at what s.player.device) s.player.work;
  };
  controller = ordered_by from (ordered_at what s.player.device) s.controller;
  said = s.said;
}

-- ---- time

-- an abort to which no reply came is sent again, a quarter of a second after it was sent last
abbrev pub repeats_of : ℕ → Seat → Option Due
repeats_of now s = if s.player.device.unheard && nat_le REPEAT (now - s.said) then Some Repeats else None

abbrev pub due_or : Option Order → Option Due → Option Due
due_or None other = other
due_or (Some order) other = Some (Ends order)

-- what is due of it now
abbrev pub due_of : ℕ → Seat → Option Due
due_of now s = due_or (due now s.player.work) (repeats_of now s)

-- the seat once this was due
abbrev pub seat_passed : ℕ → Due → Seat → Seat
seat_passed now (Ends order) s = record { player = after_end order s.player; controller = s.controller; said = now }
seat_passed now Repeats s = record { player = s.player; controller = s.controller; said = now }

-- what is answered then
abbrev pub answer_passed : Due → Seat → Option Answer
answer_passed (Ends order) s = answer_at_end order s.player
answer_passed Repeats s = answer_ticked s.player.device

-- what happens to the device then
abbrev pub what_passes : Due → Seat → Happening
what_passes (Ends order) s = tells (told_by order s.player)
what_passes Repeats s = repeats

-- ---- when it is to be woken

-- a moment so much later, or the last one that there is
abbrev pub later : ℕ → ℕ → ℕ
later moment more = min (moment + more) (2 ^ 64 - 1)

-- when the machine comes to an end
abbrev pub end_of : Option Work → Option ℕ
end_of None = None
end_of (Some work) = Some (later work.since work.takes)

-- when its abort is sent again
abbrev pub repeat_of : Seat → Option ℕ
repeat_of s = if s.player.device.unheard then Some (later s.said REPEAT) else None

-- the earlier of two moments
abbrev pub earlier : Option ℕ → Option ℕ → Option ℕ
earlier None other = other
earlier (Some one) None = Some one
earlier (Some one) (Some other) = if nat_lt other one then Some other else Some one

abbrev pub wakes_of : Seat → Option ℕ
wakes_of s = earlier (end_of s.player.work) (repeat_of s)
