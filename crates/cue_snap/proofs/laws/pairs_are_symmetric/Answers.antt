use Rattle.cue_snap.proofs.PairLemmas.{swapped}
use Rattle.cue_snap.proofs.laws.pairs_are_symmetric.Goals as goal

pub returns : goal.returns
returns c = swapped
