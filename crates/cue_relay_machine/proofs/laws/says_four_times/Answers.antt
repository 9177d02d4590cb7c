use Rattle.cue_relay_machine.proofs.AgainLemmas.{says-four-times}
use Rattle.cue_relay_machine.proofs.laws.says_four_times.Goals as goal

pub returns : goal.returns
returns c = says-four-times
