-- The encoding of a batch of events.
use Rattle.std.specs.Prelude.{◌≢◌, ℕ, Bool, ◌&&◌, if◌then◌else◌, List, ◌∷◌, ◌++◌, length, nat_le, IsTrue}
use Rattle.std.specs.List.{flat_map, list_all}
use Rattle.cue_show.specs.DeviceNumber.{is_device, is_port}
use Rattle.cue_show.specs.Number.{is_cue_number}
use Rattle.cue_show.specs.Parts.{are_parts}
use Rattle.cue_exchange.specs.Live.{is_number, is_time}
use Rattle.cue_core.specs.declared.event.Event.{Event}
use Rattle.cue_core.specs.declared.event.Event.TheVariants.{Device, NoDevice, Cue, NoCue, Place, Start, Ready, Go, Done}
use Rattle.cue_core.specs.declared.event.Event.TheVariants.{Cancel, LetGo, Failed, Excuse}
use Rattle.cue_records.specs.declared.limits.TheConstants.{MAX_EVENTS}
use Rattle.cue_records.specs.Fields.{byte_text, short_text, number_text, time_text, text_text, entry_text}
use Rattle.cue_records.specs.Fields.{new_cue_text, reason_number, are_required, form_for}

-- the number of an event's kind; a cue with an optional part is of a kind of its own
abbrev pub event_number : Event → ℕ
event_number (Device d port) = 1
event_number (NoDevice d) = 2
event_number (Cue c parts) = if are_required parts then 3 else 13
event_number (NoCue c) = 4
event_number (Place c) = 5
event_number (Start q c t) = 6
event_number (Ready q d) = 7
event_number (Go q) = 8
event_number (Done q d) = 9
event_number (Cancel q r) = 10
event_number (LetGo q d) = 11
event_number (Failed q d) = 12
event_number (Excuse q d) = 14

-- what stands after the number of its kind
abbrev pub body_text : Event → List ℕ
body_text (Device d port) = entry_text (d, port)
body_text (NoDevice d) = byte_text d
body_text (Cue c parts) = new_cue_text (form_for parts) (c, parts)
body_text (NoCue c) = text_text c
body_text (Place c) = text_text c
body_text (Start q c t) = number_text q ++ (text_text c ++ time_text t)
body_text (Ready q d) = number_text q ++ byte_text d
body_text (Go q) = number_text q
body_text (Done q d) = number_text q ++ byte_text d
body_text (Cancel q r) = number_text q ++ byte_text (reason_number r)
body_text (LetGo q d) = number_text q ++ byte_text d
body_text (Failed q d) = number_text q ++ byte_text d
body_text (Excuse q d) = number_text q ++ byte_text d

-- the number of its kind, and what stands after it
abbrev pub event_text : Event → List ℕ
event_text e = event_number e ∷ body_text e

-- the event has an encoding: each number, cue and list of parts is within its range
abbrev pub is_event : Event → Bool
is_event (Device d port) = is_device d && is_port port
is_event (NoDevice d) = is_device d
is_event (Cue c parts) = is_cue_number c && are_parts parts
is_event (NoCue c) = is_cue_number c
is_event (Place c) = is_cue_number c
is_event (Start q c t) = is_number q && (is_cue_number c && is_time t)
is_event (Ready q d) = is_number q && is_device d
is_event (Go q) = is_number q
is_event (Done q d) = is_number q && is_device d
is_event (Cancel q r) = is_number q
is_event (LetGo q d) = is_number q && is_device d
is_event (Failed q d) = is_number q && is_device d
is_event (Excuse q d) = is_number q && is_device d

-- a count in two bytes, and so many events
abbrev pub batch_text : List Event → List ℕ
batch_text events = short_text (length events) ++ flat_map event_text events

-- the events have an encoding: 1 to 4,096 of them, each within its ranges
abbrev pub is_batch : List Event → Bool
is_batch events = nat_le 1 (length events) && (nat_le (length events) MAX_EVENTS && list_all is_event events)

-- the bytes are the encoding of no batch
abbrev pub IsNoBatch : List ℕ → Type 0
IsNoBatch bytes = (events : List Event) → IsTrue (is_batch events) → bytes ≢ batch_text events
