use Rattle.cue_edit.proofs.EditingLemmas.{copy-adds}
use Rattle.cue_edit.proofs.laws.a_copy_adds_one.Goals as goal

pub returns : goal.returns
returns c = copy-adds
