-- Which devices are played, at which addresses, and how.
use Rattle.std.specs.Prelude.{List, map}
use Rattle.cue_rehearsal.specs.declared.plan.Plan.{Plan}
use Rattle.cue_rehearsal.specs.Plans.{manner_of}
use Rattle.cue_rehearsal_machine.specs.declared.seat.Role.{Role}
use Rattle.cue_rehearsal_plan.specs.declared.roles.TheConstants.{HERE}
use Rattle.cue_show_file.specs.declared.file.DeviceEntry.{DeviceEntry}
use Rattle.cue_show_file.specs.declared.file.ShowFile.{ShowFile}

-- a device is played in the manner of the plan, at its port of this machine
abbrev pub role_of : Plan → DeviceEntry → Role
role_of p e = record {
  device = e.number;
  manner = manner_of p e.number;
  address = record { host = HERE; port = e.port };
}

-- each device of the file, once and in order
abbrev pub roles_of : ShowFile → Plan → List Role
roles_of file p = map (role_of p) file.devices.items
