use Rattle.cue_core.proofs.history.SafetyLemmas.{decided-stays}
use Rattle.cue_core.proofs.laws.decided_stays.Goals as goal

pub returns : goal.returns
returns c = decided-stays
