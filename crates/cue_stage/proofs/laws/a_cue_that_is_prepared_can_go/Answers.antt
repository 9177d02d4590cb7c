use Rattle.cue_stage.proofs.GoingLemmas.{a_cue_that_is_prepared_can_go}
use Rattle.cue_stage.proofs.laws.a_cue_that_is_prepared_can_go.Goals as goal

pub returns : goal.returns
returns c = a_cue_that_is_prepared_can_go
