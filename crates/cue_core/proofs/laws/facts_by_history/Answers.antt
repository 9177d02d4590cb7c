use Rattle.cue_core.proofs.history.FactLemmas.{facts-by-history}
use Rattle.cue_core.proofs.laws.facts_by_history.Goals as goal

pub returns : goal.returns
returns c = facts-by-history
