use Rattle.cue_presses.proofs.PedalLemmas.{pressed-after_let_go}
use Rattle.cue_presses.proofs.laws.pressed_after_let_go.Goals as goal

pub returns : goal.returns
returns c = pressed-after_let_go
