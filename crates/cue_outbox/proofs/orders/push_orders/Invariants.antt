use Rattle.std.specs.Prelude.{◌≡◌, ◌++◌, drop}
use Rattle.cue_outbox.specs.Owed.{datagrams_for}
use Rattle.cue_outbox.specs.Views.{outs_view}
use Rattle.cue_outbox.proofs.orders.push_orders.Given as goal

-- what was found, and the orders to the devices that are left, are all
abbrev pub invariant-loop-answer : goal.invariant-loop-answer
invariant-loop-answer l =
    outs_view l.outs.items ++ datagrams_for l.state l.attempt (drop l.answer-index l.attempt.answers) ≡ outs_view
    l.initial.outs.items ++ datagrams_for l.state l.attempt l.attempt.answers
