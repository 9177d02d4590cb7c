-- Helper: what a call at a socket means: whether something came, when a tick is due, and what was sent whole.
use Rattle.std.specs.Prelude.{◌≤◌, ◌-◌, ◌||◌, ◌==◌, if◌then◌else◌, ℕ, Bool, false, nat_le, nat_lt, Option, Some, None}
use Rattle.std.specs.Prelude.{◌≡◌, [], ◌∷◌, List, Result, Ok, Err, length, min, take}
use Rattle.std.specs.Net.Addr.{ipv4_octets}
use Rattle.std.specs.declared.net.ip_addr.IpAddr.{IpAddr}
use Rattle.std.specs.declared.net.ip_addr.IpAddr.TheVariants as ip
use Rattle.std.specs.IoError.{error_kind}
use Rattle.std.specs.declared.io.Error.{Error}
use Rattle.std.specs.declared.io.ErrorKind.{ErrorKind}
use Rattle.std.specs.declared.io.ErrorKind.TheVariants.{WouldBlock, TimedOut, ConnectionRefused, Interrupted}
use Rattle.cue_engine.specs.declared.sources.udp.came.Came.{Came}
use Rattle.cue_engine.specs.declared.sources.udp.came.Came.TheVariants as came
use Rattle.cue_engine.specs.declared.sources.source.Turn.{Turn}
use Rattle.cue_engine.specs.declared.sources.source.Waiting.{Waiting}
use Rattle.cue_engine.specs.declared.sources.source.Turn.TheVariants as turn
use Rattle.cue_engine.specs.Sources.{IsWithin}

-- 127.0.0.1: no other machine sends to it, and it reaches none
abbrev pub IsThisMachine : IpAddr → Type 0
IsThisMachine (ip.V4 address) = ipv4_octets address ≡ 127 ∷ 0 ∷ 0 ∷ 1 ∷ []
IsThisMachine (ip.V6 address) = ⊥

-- a datagram that came lies within the buffer
abbrev pub CameWithin : Came → ℕ → Type 0
CameWithin came.Nothing size = Unit {0}
CameWithin came.Noise size = Unit {0}
CameWithin (came.Datagram from n) size = n ≤ size

-- the datagram of a turn lies within the buffer
abbrev pub NextWithin : Option Turn → ℕ → Type 0
NextWithin None size = Unit {0}
NextWithin (Some turn) size = IsWithin (Ok turn) size

-- a wait that ended so: its time passed, or word came that nobody got an earlier reply; any other is a fault
abbrev pub meaning_of : ErrorKind → Option Came
meaning_of WouldBlock = Some came.Nothing
meaning_of TimedOut = Some came.Nothing
meaning_of ConnectionRefused = Some came.Noise
meaning_of Interrupted = Some came.Noise
meaning_of _ = None

-- what came is known, or else this is the fault
abbrev pub known_or : Error → Option Came → Result Came Error
known_or error (Some came) = Ok came
known_or error None = Err error

-- a datagram of the own port is noise
abbrev pub came_from : (own from n : ℕ) → Came
came_from own from n = if from == own then came.Noise else came.Datagram from n

-- what a wait at a port brought: the length of a datagram and the port that it is from, or an error
abbrev pub came_of : ℕ → Result (ℕ × ℕ) Error → Result Came Error
came_of own (Ok received) = Ok (came_from own received.1 received.0)
came_of own (Err error) = known_or error (meaning_of (error_kind error))

-- a tick is due 250 ms after the last one, or if the clock was put back
abbrev pub is_tick_due : ℕ → ℕ → Bool
is_tick_due last now = nat_lt now last || nat_le 250 (now - last)

-- A tick that is due comes first: a datagram is given at a moment at which none is due since the last one. So what came
-- too late for a deadline is judged after the tick at which that deadline has passed.
abbrev pub TickComesFirst : (last : ℕ) → Turn → Type 0
TickComesFirst last (turn.Datagram now from n) = is_tick_due last now ≡ false
TickComesFirst last (turn.Tick now) = Unit {0}
TickComesFirst last turn.End = Unit {0}

-- the same of a datagram that a look found, within a group
abbrev pub LooksAfterTicks : (last : ℕ) → Option Waiting → Type 0
LooksAfterTicks last (Some waiting) = is_tick_due last waiting.now ≡ false
LooksAfterTicks last None = Unit {0}

-- A turn comes at the moment that the clock showed after all that was heard for it; `shown` is what the clock showed, if
-- nothing was heard since. So no datagram has a moment of before it came.
abbrev pub ComesNow : (shown : Option ℕ) → Turn → Type 0
ComesNow shown (turn.Datagram now from n) = shown ≡ Some now
ComesNow shown (turn.Tick now) = shown ≡ Some now
ComesNow shown turn.End = Unit {0}

-- the same of a datagram that a look found
abbrev pub IsFoundNow : (shown : Option ℕ) → Option Waiting → Type 0
IsFoundNow shown (Some waiting) = shown ≡ Some waiting.now
IsFoundNow shown None = Unit {0}

-- a datagram that is held: the port that it is from, and its bytes
abbrev pub holds : Option ℕ → List ℕ → Option (ℕ × List ℕ)
holds None bytes = None
holds (Some from) bytes = Some (from, bytes)

-- What is held came into a buffer, its first bytes if the buffer is shorter: the port, and how many bytes of it are there.
abbrev pub HeldComes : (held : Option (ℕ × List ℕ)) → (given : Option (ℕ × ℕ)) → (buffer : List ℕ) → Type 0
HeldComes None None buffer = Unit {0}
HeldComes None (Some given) buffer = ⊥
HeldComes (Some held) None buffer = ⊥
HeldComes (Some held) (Some given) buffer =
    (given.0 ≡ held.0) × (given.1 ≡ min (length held.1) (length buffer)) × (take given.1 buffer ≡ take given.1 held.1)

-- the tick that is due
abbrev pub tick_if_due : ℕ → ℕ → Option Turn
tick_if_due last now = if is_tick_due last now then Some (turn.Tick now) else None

-- the turn of what a wait brought that was over at this time: a tick if nothing came, none of noise
abbrev pub next_of : Came → ℕ → Option Turn
next_of came.Noise now = None
next_of came.Nothing now = Some (turn.Tick now)
next_of (came.Datagram from n) now = Some (turn.Datagram now from n)

-- the datagram that a look found at this time: none if nothing came, or noise
abbrev pub waiting_of : Came → ℕ → Option Waiting
waiting_of came.Nothing now = None
waiting_of came.Noise now = None
waiting_of (came.Datagram from n) now = Some (record { now = now; from = from; n = n })

-- the time of the last tick after a turn
abbrev pub last_after : ℕ → Option Turn → ℕ
last_after last None = last
last_after last (Some turn.End) = last
last_after last (Some (turn.Tick now)) = now
last_after last (Some (turn.Datagram now from n)) = last

-- a send took the whole datagram, of this length
abbrev pub is_whole : Result ℕ Error → ℕ → Bool
is_whole (Ok sent) len = sent == len
is_whole (Err error) len = false
