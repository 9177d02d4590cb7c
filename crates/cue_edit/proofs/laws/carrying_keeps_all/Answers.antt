use Rattle.cue_edit.proofs.EditingLemmas.{carrying-keeps}
use Rattle.cue_edit.proofs.laws.carrying_keeps_all.Goals as goal

pub returns : goal.returns
returns c = carrying-keeps
