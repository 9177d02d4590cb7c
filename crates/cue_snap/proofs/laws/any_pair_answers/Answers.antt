use Rattle.cue_snap.proofs.ReaderLemmas.{any_pair}
use Rattle.cue_snap.proofs.laws.any_pair_answers.Goals as goal

pub returns : goal.returns
returns c = any_pair
