use Rattle.cue_osc.proofs.DatagramLemmas.{no_memory}
use Rattle.cue_osc.proofs.laws.memory_is_no_fault.Goals as goal

pub returns : goal.returns
returns c = no_memory
