use Rattle.cue_relay_machine.proofs.StillLemmas.{says-again}
use Rattle.cue_relay_machine.proofs.laws.says_again.Goals as goal

pub returns : goal.returns
returns c = says-again
