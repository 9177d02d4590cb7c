use Rattle.cue_station.proofs.StayLemmas.{failure_kept}
use Rattle.cue_station.proofs.laws.a_failure_stays.Goals as goal

-- src/laws.rt
pub returns : goal.returns
returns c = failure_kept
