use Rattle.std.proofs.Common.{◌≡◌, ◌++◌, drop}
use Rattle.cue_relay_machine.specs.Copies.{copies_given}
use Rattle.cue_relay_machine.proofs.copies.push_copies.Given as goal

-- what was given of those before, and what is of those that are left, is of all
abbrev pub invariant-loop-route : goal.invariant-loop-route
invariant-loop-route l =
    l.out ++ copies_given l.route (drop l.route l.waiting) l.now ≡ l.fn.out ++ copies_given 0 l.waiting l.now
