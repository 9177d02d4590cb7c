use Rattle.cue_rehearsal_machine.proofs.LawLemmas.{moves-once}
use Rattle.cue_rehearsal_machine.proofs.laws.moves_once.Goals as goal

pub returns : goal.returns
returns c = moves-once
