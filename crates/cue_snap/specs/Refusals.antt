-- Helper: why a pair is not opened, by what was found on its disks.
use Rattle.std.specs.Prelude.{Result, Ok, Err}
use Rattle.cue_log.specs.declared.opening.OpenFault.{OpenFault as AreaFault}
use Rattle.cue_log.specs.declared.opening.OpenFault.TheVariants as area
use Rattle.cue_snap.specs.declared.choosing.Found.{Found}
use Rattle.cue_snap.specs.declared.choosing.Found.TheVariants as found
use Rattle.cue_snap.specs.declared.choosing.Unfit.{Unfit}
use Rattle.cue_snap.specs.declared.choosing.Unfit.TheVariants as unfit
use Rattle.cue_snap.specs.declared.opening.OpenFault.{OpenFault}
use Rattle.cue_snap.specs.declared.opening.OpenFault.TheVariants as fault

-- what a disk has whose area is not opened: no area and a damaged one are no fault of the pair yet
abbrev pub found_by : {D : Type 0} {disk : _} → AreaFault → D → Result (Found D disk) (OpenFault × D)
found_by area.Absent on = Ok (found.Absent on)
found_by area.Damaged on = Ok (found.Damaged on)
found_by area.Disk on = Err (fault.Disk, on)
found_by area.Memory on = Err (fault.Memory, on)

-- what a pair is refused as if neither area is chosen
abbrev pub open_fault : Unfit → OpenFault
open_fault unfit.Damaged = fault.Damaged
open_fault unfit.Unformed = fault.Unformed
