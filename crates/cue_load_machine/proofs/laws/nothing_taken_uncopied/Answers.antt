use Rattle.cue_load_machine.proofs.PlanLemmas.{nothing-taken-uncopied}
use Rattle.cue_load_machine.proofs.laws.nothing_taken_uncopied.Goals as goal

pub returns : goal.returns
returns c = nothing-taken-uncopied
