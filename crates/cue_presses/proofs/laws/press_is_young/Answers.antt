use Rattle.cue_presses.proofs.SettlingLemmas.{press-is_young}
use Rattle.cue_presses.proofs.laws.press_is_young.Goals as goal

pub returns : goal.returns
returns c = press-is_young
