use Rattle.std.proofs.Common.{◌≡◌, None, drop}
use Rattle.cue_rehearsal_machine.specs.Steps.{earliest}
use Rattle.cue_rehearsal_machine.proofs.machine.earliest.Given as goal

-- the earliest of those so far and those that are left is that of all
abbrev pub invariant-loop-seat : goal.invariant-loop-seat
invariant-loop-seat l = earliest l.first (drop l.seat-index l.seats) ≡ earliest None l.seats
