use Rattle.cue_outbox.proofs.WritableLemmas.{orders-are-read}
use Rattle.cue_outbox.proofs.laws.orders_are_read.Goals as goal

pub returns : goal.returns
returns c = orders-are-read
