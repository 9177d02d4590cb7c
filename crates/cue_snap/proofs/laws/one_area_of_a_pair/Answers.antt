use Rattle.cue_snap.proofs.ReaderLemmas.{one_of_a_pair}
use Rattle.cue_snap.proofs.laws.one_area_of_a_pair.Goals as goal

pub returns : goal.returns
returns c = one_of_a_pair
