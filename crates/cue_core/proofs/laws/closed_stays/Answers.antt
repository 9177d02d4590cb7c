use Rattle.cue_core.proofs.live.CancelLemmas.{closed-stays}
use Rattle.cue_core.proofs.laws.closed_stays.Goals as goal

pub returns : goal.returns
returns c = closed-stays
