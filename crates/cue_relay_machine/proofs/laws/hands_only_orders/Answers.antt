use Rattle.cue_relay_machine.proofs.LawLemmas.{hands-only-orders}
use Rattle.cue_relay_machine.proofs.laws.hands_only_orders.Goals as goal

pub returns : goal.returns
returns c = hands-only-orders
