use Rattle.cue_presses.proofs.HandLemmas.{pressed-is_meant}
use Rattle.cue_presses.proofs.laws.pressed_is_meant.Goals as goal

pub returns : goal.returns
returns c = pressed-is_meant
