use Rattle.cue_outbox.proofs.NewlyPendingLemmas.{asked-orders-differ}
use Rattle.cue_outbox.proofs.laws.asked_orders_differ.Goals as goal

pub returns : goal.returns
returns c = asked-orders-differ
