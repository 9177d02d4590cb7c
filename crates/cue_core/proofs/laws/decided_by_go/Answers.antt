use Rattle.cue_core.proofs.history.RestLemmas.{decided-by-go}
use Rattle.cue_core.proofs.laws.decided_by_go.Goals as goal

pub returns : goal.returns
returns c = decided-by-go
