-- Why a socket gave no datagram.
use Rattle.std.specs.Prelude.{Option, Some, None}
use Rattle.std.specs.declared.io.ErrorKind.{ErrorKind}
use Rattle.std.specs.declared.io.ErrorKind.TheVariants.{WouldBlock, TimedOut, ConnectionRefused, Interrupted}
use Rattle.cue_edge_run.specs.declared.missed.Missed.{Missed}
use Rattle.cue_edge_run.specs.declared.missed.Missed.TheVariants.{Nothing, Again, Refused}

-- it has none, another call may give one, or nobody listens where it sent to; any other reason is a fault of the socket
abbrev pub why_missed : ErrorKind → Option Missed
why_missed WouldBlock = Some Nothing
why_missed TimedOut = Some Nothing
why_missed ConnectionRefused = Some Refused
why_missed Interrupted = Some Again
why_missed _ = None
