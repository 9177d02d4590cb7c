-- A device as C has it: the numbers that stand for a device, and the device that numbers stand for.
use Rattle.std.specs.Prelude.{ℕ, Bool, ◌&&◌, ◌||◌, if◌then◌else◌, Option, Some, None, List, ◌++◌, length, take}
use Rattle.std.specs.Prelude.{replicate, ◌-◌, nat_eq, nat_le}
use Rattle.std.specs.Cmp.Lexicographic.{pointwise}
use Rattle.cue_show.specs.Number.{is_cue_number}
use Rattle.cue_show.specs.declared.limits.TheConstants.{MAX_DEVICE_NUMBER, MAX_CUE_BYTES, MAX_PART_BYTES}
use Rattle.cue_device.specs.declared.asked.Task.{Task}
use Rattle.cue_device.specs.declared.hearing.Device.{Device}
use Rattle.cue_device.specs.declared.phase.Attempt.{Attempt}
use Rattle.cue_device.specs.declared.phase.Phase.{Phase}
use Rattle.cue_device.specs.Hearing.{phase_now, task_now}
use Rattle.cue_device_c.specs.Codes.{phase_code, phase_of, order_code, order_number, order_of}
use Rattle.cue_device_c.specs.declared.state.CueDevice.{CueDevice}
use Rattle.cue_device_c.specs.declared.state.CuePlace.{CuePlace}
use Rattle.cue_device_c.specs.declared.state.TheConstants.{MAGIC, SIZE}

-- ---- places

-- two places are the same, byte for byte
abbrev pub is_same_place : CuePlace → CuePlace → Bool
is_same_place a b = pointwise nat_eq a.bytes b.bytes

-- no place: eight zeros
abbrev pub no_place : CuePlace
no_place = record { bytes = replicate 8 0 }

-- it is no place
abbrev pub is_none_place : CuePlace → Bool
is_none_place a = is_same_place a no_place

-- a datagram from there is heard: no sender is named, or it is this one
abbrev pub is_heard : CuePlace → CuePlace → Bool
is_heard only from = is_none_place only || is_same_place only from

-- ---- the device that numbers stand for

-- there is no cue, or it is the number of one
abbrev pub fits_cue : ℕ → List ℕ → Bool
fits_cue len places = nat_eq len 0 || (nat_le len MAX_CUE_BYTES && is_cue_number (take len places))

-- The numbers stand for a device: a call of this library made them, and each is in its range.
abbrev pub fits : CueDevice → Bool
fits s = nat_eq s.magic MAGIC && (nat_eq s.size SIZE && (nat_le s.number MAX_DEVICE_NUMBER && (nat_le s.phase 7
    && (nat_le s.doing 3 && (nat_le s.unheard 1 && (nat_le s.bytes_length MAX_PART_BYTES
    && fits_cue s.cue_length s.cue))))))

-- what it is asked to prepare for
abbrev pub task_in : CueDevice → Option Task
task_in s = if nat_eq s.cue_length 0 then None else Some
    (record { cue = take s.cue_length s.cue; bytes = take s.bytes_length s.bytes })

-- the attempt of a phase, if there is one
abbrev pub attempt_in : Option Phase → Option Task → Option Attempt
attempt_in None task = None
attempt_in (Some phase) task = Some (record { phase = phase; task = task })

-- the device of numbers that fit
abbrev pub device_in : CueDevice → Device
device_in s = record {
  number = s.number;
  last = s.last;
  attempt = attempt_in (phase_of s.phase) (task_in s);
  doing = order_of s.doing s.doing_number;
  unheard = nat_eq s.unheard 1;
}

-- the device that the numbers stand for; none if they stand for no device
abbrev pub device_of : CueDevice → Option Device
device_of s = if fits s then Some (device_in s) else None

-- ---- the numbers that stand for a device

-- the length of the cue's number, 0 if there is no task
abbrev pub cue_length : Option Task → ℕ
cue_length None = 0
cue_length (Some task) = length task.cue

-- how many bytes the show keeps, 0 if there is no task
abbrev pub bytes_length : Option Task → ℕ
bytes_length None = 0
bytes_length (Some task) = length task.bytes

-- the text of the cue's number, with zeros after it
abbrev pub cue_places : Option Task → List ℕ
cue_places None = replicate MAX_CUE_BYTES 0
cue_places (Some task) = task.cue ++ replicate (MAX_CUE_BYTES - length task.cue) 0

-- the bytes that the show keeps, with zeros after them
abbrev pub bytes_places : Option Task → List ℕ
bytes_places None = replicate MAX_PART_BYTES 0
bytes_places (Some task) = task.bytes ++ replicate (MAX_PART_BYTES - length task.bytes) 0

-- 1 for true
abbrev pub bit : Bool → ℕ
bit b = if b then 1 else 0

-- the numbers that stand for a device, whose last order came from one place, and which hears the other alone
abbrev pub numbers_of : Device → CuePlace → CuePlace → CueDevice
numbers_of d controller only = record {
  magic = MAGIC;
  size = SIZE;
  number = d.number;
  last = d.last;
  phase = phase_code (phase_now d.attempt);
  doing = order_code d.doing;
  doing_number = order_number d.doing;
  unheard = bit d.unheard;
  cue_length =
      cue_length (task_now d.attempt);
  bytes_length = bytes_length (task_now d.attempt);
  cue =
      cue_places (task_now d.attempt);
  bytes = bytes_places (task_now d.attempt);
  controller = controller;
  only = only;
}
