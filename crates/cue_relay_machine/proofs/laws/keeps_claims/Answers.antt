use Rattle.cue_relay_machine.proofs.ToldLemmas.{keeps-claims}
use Rattle.cue_relay_machine.proofs.laws.keeps_claims.Goals as goal

pub returns : goal.returns
returns c = keeps-claims
