use Rattle.cue_engine.proofs.KeptLemmas.{never_handed_both as law}
use Rattle.cue_engine.proofs.laws.never_handed_both.Goals as goal

pub returns : goal.returns
returns c = law
