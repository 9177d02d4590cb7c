use Rattle.std.proofs.Common.{◌≡◌, map, take, drop, ◌++◌}
use Rattle.cue_exchange.specs.Steps.{with_change, moves_to}
use Rattle.cue_exchange.proofs.steps.move_to.Given as goal

abbrev pub invariant-loop-attempt : goal.invariant-loop-attempt
invariant-loop-attempt l =
    l.attempt-items ≡ map (with_change l.seq (moves_to l.stage)) (take l.attempt-index l.initial.attempt-items) ++ drop
    l.attempt-index l.initial.attempt-items
