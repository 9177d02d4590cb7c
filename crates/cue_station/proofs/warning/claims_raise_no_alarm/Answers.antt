use Rattle.cue_station.proofs.ClaimLemmas.{same_alarms}
use Rattle.cue_station.proofs.warning.claims_raise_no_alarm.Goals as goal

pub returns : goal.returns
returns c = same_alarms
