-- How a command that is refused ends: the line that it prints, and the exit status.
use Rattle.std.specs.Prelude.{ℕ, List, codes, Option, Some, None, Result, Ok, Err}
use Rattle.cue_disk.specs.declared.file.FileFault.{FileFault}
use Rattle.cue_disk.specs.declared.file.FileFault.TheVariants as file
use Rattle.cue_keeper.specs.declared.fault.StoreFault.{StoreFault}
use Rattle.cue_run.specs.declared.turns.RunFault.{RunFault}
use Rattle.cue_run.specs.declared.turns.RunFault.TheVariants as run
use Rattle.cue_script.specs.Endings.{fault_line, failure_by, failure_line, failure_status}
use Rattle.cue_script.specs.declared.ending.Failure.TheVariants.{Store}
use Rattle.cue_program.specs.declared.program.fault.ProgramFault.{ProgramFault}
use Rattle.cue_program.specs.declared.program.fault.ProgramFault.TheVariants as program

-- the line that a refused command prints
abbrev pub program_line : ProgramFault → List ℕ
program_line (program.Failed failure) = failure_line failure
program_line program.NotFound = fault_line (codes "NotFound")
program_line program.Io = fault_line (codes "Io")
program_line program.Net = fault_line (codes "Net")

-- 1 if the store refuses, 3 if the machine does
abbrev pub program_status : ProgramFault → ℕ
program_status (program.Failed failure) = failure_status failure
program_status program.NotFound = 3
program_status program.Io = 3
program_status program.Net = 3

-- a file was not opened or made
abbrev pub file_fault : FileFault → ProgramFault
file_fault file.NotFound = program.NotFound
file_fault (file.Io error) = program.Io

-- a run ended before it had its turns
abbrev pub run_fault : RunFault → ProgramFault
run_fault run.Source = program.Net
run_fault (run.Engine fault) = program.Failed (failure_by fault)

-- the port cannot be had: a fault of the store comes first
abbrev pub unbound_fault : Option StoreFault → ProgramFault
unbound_fault None = program.Net
unbound_fault (Some fault) = program.Failed (Store fault)

-- 0 if a command was carried out
abbrev pub done_status : {T : Type 0} → Result T ProgramFault → ℕ
done_status (Ok done) = 0
done_status (Err fault) = program_status fault
