use Rattle.cue_core.proofs.history.SafetyLemmas.{nothing-more-is-asked}
use Rattle.cue_core.proofs.laws.nothing_more_is_asked.Goals as goal

pub returns : goal.returns
returns c = nothing-more-is-asked
