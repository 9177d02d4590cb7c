use Rattle.std.proofs.Common.{take}
use Rattle.cue_rehearsal_machine.specs.Deeds.{NothingDue}
use Rattle.cue_rehearsal_machine.proofs.machine.first_due.Given as goal

-- nothing is due of those so far
abbrev pub invariant-loop-place : goal.invariant-loop-place
invariant-loop-place l = NothingDue l.now (take l.place l.seats)
