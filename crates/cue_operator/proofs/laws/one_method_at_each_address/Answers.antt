use Rattle.cue_operator.proofs.FindingLemmas.{one-method_at_each}
use Rattle.cue_operator.proofs.laws.one_method_at_each_address.Goals as goal

pub returns : goal.returns
returns c = one-method_at_each
