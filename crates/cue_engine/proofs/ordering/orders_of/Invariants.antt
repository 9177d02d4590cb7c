use Rattle.std.specs.Prelude.{◌≡◌, ◌++◌, drop}
use Rattle.cue_engine.specs.Accounts.{orders_of}
use Rattle.cue_engine.proofs.ordering.orders_of.Given as goal

-- what was found, and the orders of the attempts that are left, are all
abbrev pub invariant-loop-attempt : goal.invariant-loop-attempt
invariant-loop-attempt l = l.orders.items ++ orders_of l.numbers l.state (drop l.attempt-index l.state.live)
    ≡ orders_of l.numbers l.state l.state.live
