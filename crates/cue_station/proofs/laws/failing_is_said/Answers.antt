use Rattle.cue_station.proofs.SaidLemmas.{failing_said}
use Rattle.cue_station.proofs.laws.failing_is_said.Goals as goal

-- src/laws.rt
pub returns : goal.returns
returns c = failing_said
