use Rattle.cue_load_machine.proofs.LawLemmas.{nothing-goes-uncopied}
use Rattle.cue_load_machine.proofs.laws.nothing_goes_uncopied.Goals as goal

pub returns : goal.returns
returns c = nothing-goes-uncopied
