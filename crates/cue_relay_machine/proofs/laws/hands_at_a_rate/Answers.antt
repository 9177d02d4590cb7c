use Rattle.cue_relay_machine.proofs.LawLemmas.{hands-at-a-rate}
use Rattle.cue_relay_machine.proofs.laws.hands_at_a_rate.Goals as goal

pub returns : goal.returns
returns c = hands-at-a-rate
