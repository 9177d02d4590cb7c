use Rattle.std.proofs.Common.{◌≡◌, map, take, drop, ◌++◌}
use Rattle.cue_exchange.specs.Steps.{with_change, answers_as}
use Rattle.cue_exchange.proofs.steps.put_answer.Given as goal

abbrev pub invariant-loop-attempt : goal.invariant-loop-attempt
invariant-loop-attempt l =
    l.attempt-items ≡ map (with_change l.seq (answers_as l.device l.answer))
    (take l.attempt-index l.initial.attempt-items)
    ++ drop l.attempt-index l.initial.attempt-items
