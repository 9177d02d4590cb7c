use Rattle.std.proofs.Common.{◌≡◌, map, take, drop, ◌++◌}
use Rattle.cue_exchange.specs.Answers.{answers_with}
use Rattle.cue_exchange.proofs.answers.put_answer.Given as goal

abbrev pub invariant-loop-item : goal.invariant-loop-item
invariant-loop-item l = l.item-items ≡ map (answers_with l.device l.answer) (take l.item-index l.initial.item-items)
    ++ drop l.item-index l.initial.item-items
