use Rattle.cue_log.proofs.SoundLemmas.{area_not_absent}
use Rattle.cue_log.proofs.laws.no_area_is_absent.Goals as goal

pub returns : goal.returns
returns c = area_not_absent
