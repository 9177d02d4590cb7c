-- How a script ends: the last line, and the exit status.
use Rattle.std.specs.Prelude.{ℕ, Bool, true, false, if◌then◌else◌, List, [], ◌∷◌, ◌++◌, codes}
use Rattle.std.specs.IoError.{error_kind}
use Rattle.std.specs.declared.io.Error.{Error}
use Rattle.std.specs.declared.io.ErrorKind.{ErrorKind}
use Rattle.std.specs.declared.io.ErrorKind.TheVariants.{OutOfMemory}
use Rattle.hex.specs.declared.error.FromHexError.{FromHexError}
use Rattle.hex.specs.declared.error.FromHexError.TheVariants as digits
use Rattle.cue_keeper.specs.declared.fault.Fault.{Fault}
use Rattle.cue_keeper.specs.declared.fault.Fault.TheVariants as engine
use Rattle.cue_keeper.specs.declared.fault.StoreFault.{StoreFault}
use Rattle.cue_keeper.specs.declared.fault.StoreFault.TheVariants as store
use Rattle.cue_script.specs.declared.ending.Ending.{Ending}
use Rattle.cue_script.specs.declared.ending.Ending.TheVariants.{Done, BadLine, BadInput, Failed, Stopped}
use Rattle.cue_script.specs.declared.ending.Failure.{Failure}
use Rattle.cue_script.specs.declared.ending.Failure.TheVariants.{Broken, Store}
use Rattle.cue_script.specs.declared.ending.StreamFailure.{StreamFailure}
use Rattle.cue_script.specs.declared.ending.StreamFailure.TheVariants.{Io, Memory}

-- a line `! NAME`
abbrev pub fault_line : List ℕ → List ℕ
fault_line name = codes "! " ++ (name ++ (10 ∷ []))

abbrev pub store_line : StoreFault → List ℕ
store_line store.NotEmpty = fault_line (codes "NotEmpty")
store_line store.Unformed = fault_line (codes "Unformed")
store_line store.Damaged = fault_line (codes "Damaged")
store_line store.Version = fault_line (codes "Version")
store_line store.Malformed = fault_line (codes "Malformed")
store_line store.Full = fault_line (codes "Full")
store_line store.Exhausted = fault_line (codes "Exhausted")
store_line store.Memory = fault_line (codes "Memory")
store_line store.Disk = fault_line (codes "Disk")

abbrev pub failure_line : Failure → List ℕ
failure_line Broken = fault_line (codes "Broken")
failure_line (Store fault) = store_line fault

abbrev pub stream_line : StreamFailure → List ℕ
stream_line Io = fault_line (codes "Io")
stream_line Memory = fault_line (codes "Memory")

-- the last line of what is written; none if all lines were run
abbrev pub ending_line : Ending → List ℕ
ending_line Done = []
ending_line BadLine = fault_line (codes "BadLine")
ending_line BadInput = fault_line (codes "BadInput")
ending_line (Failed failure) = failure_line failure
ending_line (Stopped failure) = stream_line failure

-- 3 if memory or the disk failed, 1 if the store refuses
abbrev pub store_status : StoreFault → ℕ
store_status store.NotEmpty = 1
store_status store.Unformed = 1
store_status store.Damaged = 1
store_status store.Version = 1
store_status store.Malformed = 1
store_status store.Full = 1
store_status store.Exhausted = 1
store_status store.Memory = 3
store_status store.Disk = 3

abbrev pub failure_status : Failure → ℕ
failure_status Broken = 3
failure_status (Store fault) = store_status fault

-- 0 if all lines were run
abbrev pub status_of : Ending → ℕ
status_of Done = 0
status_of BadLine = 1
status_of BadInput = 1
status_of (Failed failure) = failure_status failure
status_of (Stopped failure) = 3

abbrev pub is_memory : ErrorKind → Bool
is_memory OutOfMemory = true
is_memory _ = false

-- a call of the reader or the writer lacked memory, or failed otherwise
abbrev pub failure_of : Error → StreamFailure
failure_of error = if is_memory (error_kind error) then Memory else Io

-- what an engine answers, as a line of a script fails by it
abbrev pub failure_by : Fault → Failure
failure_by engine.Broken = Broken
failure_by engine.Memory = Store store.Memory
failure_by engine.Exhausted = Store store.Exhausted
failure_by engine.Full = Store store.Full
failure_by engine.Disk = Store store.Disk

-- A script forms its store itself and reads it back whole, a new area has room for any state and batch, and a text has
-- too few lines for the generations to run out. So it fails only if its disks or memory fail.
abbrev pub can_come : Failure → Bool
can_come Broken = false
can_come (Store store.NotEmpty) = false
can_come (Store store.Unformed) = false
can_come (Store store.Damaged) = false
can_come (Store store.Version) = false
can_come (Store store.Malformed) = false
can_come (Store store.Full) = false
can_come (Store store.Exhausted) = false
can_come (Store store.Memory) = true
can_come (Store store.Disk) = true

-- digits were not decoded because memory ran out, and not for their form
abbrev pub is_out_of_memory : FromHexError → Bool
is_out_of_memory (digits.InvalidHexCharacter c index) = false
is_out_of_memory digits.OddLength = false
is_out_of_memory digits.InvalidStringLength = false
is_out_of_memory digits.OutOfMemory = true
