use Rattle.cue_core.proofs.history.FactLemmas.{go-after-ready}
use Rattle.cue_core.proofs.laws.go_after_ready.Goals as goal

pub returns : goal.returns
returns c = go-after-ready
