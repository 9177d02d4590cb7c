use Rattle.cue_core.proofs.history.SafetyLemmas.{never-asked-both}
use Rattle.cue_core.proofs.laws.never_asked_both.Goals as goal

pub returns : goal.returns
returns c = never-asked-both
