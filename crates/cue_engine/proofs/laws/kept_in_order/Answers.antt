use Rattle.cue_engine.proofs.KeptLemmas.{kept_in_order as law}
use Rattle.cue_engine.proofs.laws.kept_in_order.Goals as goal

pub returns : goal.returns
returns c = law
