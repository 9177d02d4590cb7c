use Rattle.cue_whereabouts.proofs.TellingLemmas.{readings-tell}
use Rattle.cue_whereabouts.proofs.laws.nothing_is_made_up.Goals as goal

pub returns : goal.returns
returns c = readings-tell
