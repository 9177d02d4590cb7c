use Rattle.std.proofs.Common.{◌≡◌, map, take, drop, ◌++◌}
use Rattle.cue_exchange.specs.Answers.{enters}
use Rattle.cue_exchange.proofs.answers.enter_stage.Given as goal

abbrev pub invariant-loop-item : goal.invariant-loop-item
invariant-loop-item l = l.item-items ≡ map (enters l.stage) (take l.item-index l.initial.item-items) ++ drop
    l.item-index l.initial.item-items
