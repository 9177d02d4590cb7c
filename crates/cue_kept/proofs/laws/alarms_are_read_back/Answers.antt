use Rattle.cue_kept.proofs.KeptLemmas.{alarms-are-read-back}
use Rattle.cue_kept.proofs.laws.alarms_are_read_back.Goals as goal

pub returns : goal.returns
returns c = alarms-are-read-back
