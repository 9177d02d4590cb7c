use Rattle.cue_device.proofs.CarryingLemmas.{carries_out}
use Rattle.cue_device.proofs.CopyLemmas.{late_copies_fail_nothing}
use Rattle.cue_device.proofs.laws.late_copies_fail_nothing.Goals as goal

pub returns-clause-each : goal.returns-clause-each
returns-clause-each c = late_copies_fail_nothing

pub returns-clause-ever : goal.returns-clause-ever
returns-clause-ever c = carries_out
