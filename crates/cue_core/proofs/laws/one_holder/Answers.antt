use Rattle.cue_core.proofs.history.SafetyLemmas.{one-holder}
use Rattle.cue_core.proofs.laws.one_holder.Goals as goal

pub returns : goal.returns
returns c = one-holder
