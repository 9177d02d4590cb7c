use Rattle.cue_whereabouts.proofs.TellingLemmas.{reading-again}
use Rattle.cue_whereabouts.proofs.laws.again_is_nothing.Goals as goal

pub returns : goal.returns
returns c = reading-again
