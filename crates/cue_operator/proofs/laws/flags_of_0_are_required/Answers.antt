use Rattle.cue_operator.proofs.ArgumentLemmas.{flags-of_0_are_required}
use Rattle.cue_operator.proofs.laws.flags_of_0_are_required.Goals as goal

pub returns : goal.returns
returns c = flags-of_0_are_required
