use Rattle.std.proofs.Common.{◌≡◌, map, take, drop, ◌++◌}
use Rattle.cue_relay_machine.specs.Copies.{after_wake}
use Rattle.cue_relay_machine.proofs.copies.pass_copies.Given as goal

-- those before have passed, and those that are left are as they were
abbrev pub invariant-loop-one : goal.invariant-loop-one
invariant-loop-one l =
    l.one-items ≡ map (after_wake l.now) (take l.one-index l.initial.one-items) ++ drop l.one-index l.initial.one-items
