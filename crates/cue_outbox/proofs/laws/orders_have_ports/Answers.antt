use Rattle.cue_outbox.proofs.WritableLemmas.{orders-have-ports}
use Rattle.cue_outbox.proofs.laws.orders_have_ports.Goals as goal

pub returns : goal.returns
returns c = orders-have-ports
