-- Why bytes are not read.
use Rattle.cue_records.specs.declared.fault.ReadFault.{ReadFault}
use Rattle.cue_records.specs.declared.fault.ReadFault.TheVariants as read
use Rattle.cue_records.specs.declared.fault.StateFault.{StateFault}
use Rattle.cue_records.specs.declared.fault.StateFault.TheVariants as state

-- what a state is refused as if a part of it is not read
abbrev pub state_fault : ReadFault → StateFault
state_fault read.Malformed = state.Malformed
state_fault read.Memory = state.Memory
