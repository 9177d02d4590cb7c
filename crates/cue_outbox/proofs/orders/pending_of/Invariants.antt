use Rattle.std.specs.Prelude.{◌≡◌, ◌++◌, drop}
use Rattle.cue_outbox.specs.Sending.{datagrams}
use Rattle.cue_outbox.specs.Asked.{pending_of}
use Rattle.cue_outbox.specs.Views.{outs_view}
use Rattle.cue_outbox.proofs.CountedLemmas.{datagrams_of}
use Rattle.cue_outbox.proofs.orders.pending_of.Given as goal

-- what was found, and the orders of the attempts that are left, are all
abbrev pub invariant-loop-attempt : goal.invariant-loop-attempt
invariant-loop-attempt l = outs_view l.asked.items ++ datagrams_of l.state l.numbers (drop l.attempt-index l.state.live)
    ≡ datagrams (pending_of l.numbers l.state)
