-- What it means that a device gave no bytes.
use Rattle.std.specs.Prelude.{Bool, true, false}
use Rattle.std.specs.declared.io.ErrorKind.{ErrorKind}
use Rattle.std.specs.declared.io.ErrorKind.TheVariants as kind

-- a call that failed so only found nothing at this moment
abbrev pub found_nothing : ErrorKind → Bool
found_nothing kind.WouldBlock = true
found_nothing _ = false

-- a signal ended it: nobody knows what is there
abbrev pub was_interrupted : ErrorKind → Bool
was_interrupted kind.Interrupted = true
was_interrupted _ = false
