use Rattle.cue_connection.proofs.LifeLemmas.{nothing-after}
use Rattle.cue_connection.proofs.laws.nothing_after.Goals as goal

pub returns : goal.returns
returns c = nothing-after
