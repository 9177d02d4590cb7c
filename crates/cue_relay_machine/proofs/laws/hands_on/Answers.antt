use Rattle.cue_relay_machine.proofs.LawLemmas.{hands-on}
use Rattle.cue_relay_machine.proofs.laws.hands_on.Goals as goal

pub returns : goal.returns
returns c = hands-on
