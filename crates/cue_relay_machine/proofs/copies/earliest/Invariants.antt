use Rattle.std.proofs.Common.{◌≡◌, drop}
use Rattle.cue_relay_machine.specs.Copies.{earliest}
use Rattle.cue_relay_machine.proofs.copies.earliest.Given as goal

-- the earliest of that so far and those that are left is that of all
abbrev pub invariant-loop-one : goal.invariant-loop-one
invariant-loop-one l = earliest l.found (drop l.one-index l.waiting) ≡ earliest l.first l.waiting
