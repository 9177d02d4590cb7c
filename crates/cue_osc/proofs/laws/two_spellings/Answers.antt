use Rattle.cue_osc.proofs.OneSpellingLemmas.{two-spellings}
use Rattle.cue_osc.proofs.laws.two_spellings.Goals as goal

pub returns : goal.returns
returns c = two-spellings
