use Rattle.cue_outbox.proofs.ApartLemmas.{orders-differ}
use Rattle.cue_outbox.proofs.laws.orders_differ.Goals as goal

pub returns : goal.returns
returns c = orders-differ
