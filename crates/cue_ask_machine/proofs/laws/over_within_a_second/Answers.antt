use Rattle.cue_ask_machine.proofs.LawLemmas.{over-within-a-second}
use Rattle.cue_ask_machine.proofs.laws.over_within_a_second.Goals as goal

pub returns : goal.returns
returns c = over-within-a-second
