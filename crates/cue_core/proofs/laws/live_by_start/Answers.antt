use Rattle.cue_core.proofs.history.RestLemmas.{live-by-start}
use Rattle.cue_core.proofs.laws.live_by_start.Goals as goal

pub returns : goal.returns
returns c = live-by-start
