use Rattle.cue_whereabouts.proofs.TellingLemmas.{readings-cover}
use Rattle.cue_whereabouts.proofs.laws.none_is_newer.Goals as goal

pub returns : goal.returns
returns c = readings-cover
