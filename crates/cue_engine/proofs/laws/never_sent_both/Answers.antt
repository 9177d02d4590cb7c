use Rattle.cue_engine.proofs.AttemptLemmas.{never_sent_both as law}
use Rattle.cue_engine.proofs.laws.never_sent_both.Goals as goal

pub returns : goal.returns
returns c = law
