use Rattle.cue_load_machine.proofs.TimeLemmas.{over-in-time}
use Rattle.cue_load_machine.proofs.laws.over_in_time.Goals as goal

pub returns : goal.returns
returns c = over-in-time
