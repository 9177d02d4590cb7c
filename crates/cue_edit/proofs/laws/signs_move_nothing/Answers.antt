use Rattle.cue_edit.proofs.EditingLemmas.{told-all}
use Rattle.cue_edit.proofs.laws.signs_move_nothing.Goals as goal

pub returns : goal.returns
returns c = told-all
