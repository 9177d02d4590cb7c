use Rattle.std.specs.Prelude.{◌≡◌, ◌++◌, drop}
use Rattle.cue_outbox.specs.Sending.{datagrams, all_pending}
use Rattle.cue_outbox.specs.Views.{outs_view}
use Rattle.cue_outbox.proofs.CountedLemmas.{datagrams_in}
use Rattle.cue_outbox.proofs.orders.pending.Given as goal

-- what was found, and the orders of the attempts that are left, are all
abbrev pub invariant-loop-attempt : goal.invariant-loop-attempt
invariant-loop-attempt l = outs_view l.outs.items ++ datagrams_in l.state (drop l.attempt-index l.state.live)
    ≡ datagrams (all_pending l.state)
