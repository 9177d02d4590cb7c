use Rattle.cue_core.proofs.rules.BatchLemmas.{state-onto}
use Rattle.cue_core.proofs.laws.histories_fold.Goals as goal

pub returns : goal.returns
returns c = state-onto
