use Rattle.cue_engine.proofs.AttemptLemmas.{decided_in_order as law}
use Rattle.cue_engine.proofs.laws.decided_in_order.Goals as goal

pub returns : goal.returns
returns c = law
