use Rattle.cue_stage.proofs.ConsentingLemmas.{only_with_consent}
use Rattle.cue_stage.proofs.laws.only_with_consent.Goals as goal

pub returns : goal.returns
returns c = only_with_consent
