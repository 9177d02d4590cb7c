use Rattle.cue_station.proofs.AlarmLemmas.{silence_said}
use Rattle.cue_station.proofs.warning.silence_is_said.Goals as goal

pub returns : goal.returns
returns c = silence_said
