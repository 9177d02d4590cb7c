use Rattle.std.specs.Prelude.{◌≡◌, ◌++◌, drop}
use Rattle.cue_engine.specs.Accounts.{orders_asked}
use Rattle.cue_engine.proofs.ordering.all_orders.Given as goal

-- what was found, and the orders of the attempts that are left, are all
abbrev pub invariant-loop-attempt : goal.invariant-loop-attempt
invariant-loop-attempt l = l.orders.items ++ orders_asked l.batch l.state (drop l.attempt-index l.state.live)
    ≡ orders_asked l.batch l.state l.state.live
