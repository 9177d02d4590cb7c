-- Helper: what callers see of the calls of the reader and the writer.
use Rattle.std.specs.Prelude.{◌≡◌, ℕ, Option, Some, Result, Ok, Err}
use Rattle.std.specs.declared.io.Error.{Error}
use Rattle.cue_disk.specs.Disk.{MoreFailures}
use Rattle.cue_script.specs.declared.ending.Ending.{Ending}
use Rattle.cue_script.specs.declared.ending.Ending.TheVariants.{Done, BadLine, BadInput, Failed, Stopped}
use Rattle.cue_script.specs.declared.ending.StreamFailure.{StreamFailure}
use Rattle.cue_script.specs.declared.stream.Streams.{Streams}
use Rattle.cue_script.specs.Endings.{failure_of}

-- how many have failed
abbrev pub failed_calls : Streams → ℕ
failed_calls streams = streams.failures

-- what the last of those failed as
abbrev pub last_failure : Streams → Option StreamFailure
last_failure streams = streams.last

-- a call has failed since then, and the last one so
abbrev pub FailedAs : StreamFailure → (old new : Streams) → Type 0
FailedAs failure old new = MoreFailures (failed_calls old) (failed_calls new) × (last_failure new ≡ Some failure)

-- what one call answered: a failure is counted and kept, and else nothing changes
abbrev pub Tells : {T : Type 0} → Result T Error → (old new : Streams) → Type 0
Tells (Ok done) old new = new ≡ old
Tells (Err error) old new = FailedAs (failure_of error) old new

-- a script stopped for this failure if a call failed so, and else no call did
abbrev pub HasCause : Ending → (old new : Streams) → Type 0
HasCause Done old new = new ≡ old
HasCause BadLine old new = new ≡ old
HasCause BadInput old new = new ≡ old
HasCause (Failed failure) old new = new ≡ old
HasCause (Stopped failure) old new = FailedAs failure old new
