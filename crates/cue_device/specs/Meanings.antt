-- What a datagram is to a device, and what comes of it.
use Rattle.std.specs.Prelude.{ℕ, List, None}
use Rattle.cue_device.specs.declared.hearing.Device.{Device}
use Rattle.cue_device.specs.declared.hearing.Heard.{Heard}
use Rattle.cue_device.specs.declared.over_bytes.Meaning.{Meaning}
use Rattle.cue_device.specs.declared.over_bytes.Meaning.TheVariants.{Order, Reply, Nothing}
use Rattle.cue_device.specs.Datagrams.{IsFor, IsForNone, IsReply}
use Rattle.cue_device.specs.Hearing.{after_command, after_reply, what_comes_of}

-- the datagram is this to the device d
abbrev pub Means : ℕ → List ℕ → Meaning → Type 0
Means d datagram (Order c) = IsFor d datagram c
Means d datagram Reply = IsReply d datagram
Means d datagram Nothing = IsForNone d datagram × (IsReply d datagram → ⊥)

-- the device after it
abbrev pub after_meaning : Meaning → Device → Device
after_meaning (Order c) d = after_command c d
after_meaning Reply d = after_reply d
after_meaning Nothing d = d

-- what is ordered and answered
abbrev pub comes_of : Meaning → Device → Heard
comes_of (Order c) d = what_comes_of c d
comes_of Reply d = record { order = None; answer = None }
comes_of Nothing d = record { order = None; answer = None }
