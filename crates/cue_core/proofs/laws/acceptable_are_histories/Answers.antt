use Rattle.cue_core.proofs.rules.BatchLemmas.{acceptable-histories}
use Rattle.cue_core.proofs.laws.acceptable_are_histories.Goals as goal

pub returns : goal.returns
returns c = acceptable-histories
