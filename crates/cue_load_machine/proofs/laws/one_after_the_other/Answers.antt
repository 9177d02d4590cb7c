use Rattle.cue_load_machine.proofs.LawLemmas.{stands}
use Rattle.cue_load_machine.proofs.laws.one_after_the_other.Goals as goal

pub returns : goal.returns
returns c = stands
