use Rattle.cue_relay_machine.proofs.ToldLemmas.{hands-no-claim}
use Rattle.cue_relay_machine.proofs.laws.hands_no_claim.Goals as goal

pub returns : goal.returns
returns c = hands-no-claim
