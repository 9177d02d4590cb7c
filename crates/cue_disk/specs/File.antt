-- What callers see of a disk over a file: how many of its calls failed, and why it was not opened.
use Rattle.std.specs.Prelude.{ℕ, Bool, true, false, if◌then◌else◌}
use Rattle.std.specs.IoError.{error_kind}
use Rattle.std.specs.declared.io.Error.{Error}
use Rattle.std.specs.declared.io.ErrorKind.{ErrorKind}
use Rattle.std.specs.declared.io.ErrorKind.TheVariants as kind
use Rattle.cue_disk.specs.declared.file.DiskOver.{DiskOver}
use Rattle.cue_disk.specs.declared.file.FileFault.{FileFault}
use Rattle.cue_disk.specs.declared.file.FileFault.TheVariants.{NotFound, Io}

-- the number of calls that failed, up to the last number of 64 bits
abbrev pub file_failures : {F : Type 0} → DiskOver F → ℕ
file_failures disk = disk.failures

-- there is no such file
abbrev pub is_missing : ErrorKind → Bool
is_missing kind.NotFound = true
is_missing _ = false

-- why a file was not opened
abbrev pub opening_fault : Error → FileFault
opening_fault error = if is_missing (error_kind error) then NotFound else Io error
