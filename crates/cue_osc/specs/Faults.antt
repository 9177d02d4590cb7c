-- The words in which faults are printed.
use Rattle.std.specs.Prelude.{ℕ, List, codes}
use Rattle.cue_osc.specs.declared.fault.Fault.{Fault}
use Rattle.cue_osc.specs.declared.fault.Fault.TheVariants.{TooLong, NotMultiple, BadStart, BadString, BadBlob, BadSize}
use Rattle.cue_osc.specs.declared.fault.Fault.TheVariants.{TooDeep, Trailing, Memory}
use Rattle.cue_osc.specs.declared.fault.WriteFault.{WriteFault}
use Rattle.cue_osc.specs.declared.fault.WriteFault.TheVariants as write

-- what is wrong with a datagram
abbrev pub fault_text : Fault → List ℕ
fault_text TooLong = codes "the datagram is longer than 4096 bytes"
fault_text NotMultiple = codes "the length is no multiple of 4"
fault_text BadStart = codes "neither a message nor a bundle begins here"
fault_text BadString = codes "a text is cut off or badly padded"
fault_text BadBlob = codes "a blob is cut off or badly padded"
fault_text BadSize = codes "a number is cut off, or a size is not possible"
fault_text TooDeep = codes "a bundle stands inside eight others"
fault_text Trailing = codes "bytes follow the last argument"
fault_text Memory = codes "out of memory"

-- why a packet was not written
abbrev pub write_fault_text : WriteFault → List ℕ
write_fault_text write.TooLong = codes "the packet takes more than 4096 bytes"
write_fault_text write.Memory = codes "out of memory"
