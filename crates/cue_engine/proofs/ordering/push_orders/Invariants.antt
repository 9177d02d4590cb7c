use Rattle.std.specs.Prelude.{◌≡◌, ◌++◌, drop}
use Rattle.cue_engine.specs.Accounts.{orders_for}
use Rattle.cue_engine.proofs.ordering.push_orders.Given as goal

-- what was found, and the orders to the devices that are left, are all
abbrev pub invariant-loop-answer : goal.invariant-loop-answer
invariant-loop-answer l = l.orders.items
    ++ orders_for l.is_new l.state l.attempt (drop l.answer-index l.attempt.answers)
    ≡ l.initial.orders.items ++ orders_for l.is_new l.state l.attempt l.attempt.answers
