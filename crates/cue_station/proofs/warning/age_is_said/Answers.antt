use Rattle.cue_station.proofs.AlarmLemmas.{age_said}
use Rattle.cue_station.proofs.warning.age_is_said.Goals as goal

pub returns : goal.returns
returns c = age_said
