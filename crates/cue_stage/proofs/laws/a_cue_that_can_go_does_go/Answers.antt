use Rattle.cue_stage.proofs.GoingLemmas.{a_cue_that_can_go_does_go}
use Rattle.cue_stage.proofs.laws.a_cue_that_can_go_does_go.Goals as goal

pub returns : goal.returns
returns c = a_cue_that_can_go_does_go
