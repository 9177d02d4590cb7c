-- The codes as they are sent: those of a command, and those of a datagram that is refused whole.
use Rattle.std.specs.Prelude.{ℕ}
use Rattle.cue_core.specs.declared.command.Code.{Code}
use Rattle.cue_core.specs.declared.command.Code.TheVariants.{Unread, BadPattern, NoMethod, Arguments, BadNumber}
use Rattle.cue_core.specs.declared.command.Code.TheVariants.{Duplicate, Full, BadParts, UnknownDevice, InUse, Busy}
use Rattle.cue_core.specs.declared.command.Code.TheVariants.{NotLive, NotReady, Decided, Stale, Early, WrongPort, Clock}
use Rattle.cue_core.specs.declared.command.Code.TheVariants.{Exhausted, NotPart}
use Rattle.cue_core.specs.declared.refusal.Refusal.{Refusal}
use Rattle.cue_core.specs.declared.refusal.Refusal.TheVariants as refusal

-- the number of a code
abbrev pub code_number : Code → ℕ
code_number Unread = 1
code_number BadPattern = 2
code_number NoMethod = 3
code_number Arguments = 4
code_number BadNumber = 5
code_number Duplicate = 6
code_number Full = 7
code_number BadParts = 8
code_number UnknownDevice = 9
code_number InUse = 10
code_number Busy = 11
code_number NotLive = 12
code_number NotReady = 13
code_number Decided = 14
code_number Stale = 15
code_number Early = 16
code_number WrongPort = 17
code_number Clock = 18
code_number Exhausted = 19
code_number NotPart = 20

-- the number of a refusal of a whole datagram
abbrev pub refusal_number : Refusal → ℕ
refusal_number refusal.BadPacket = 30
refusal_number refusal.TooLong = 31
refusal_number refusal.Later = 32
refusal_number refusal.TooMany = 33
