use Rattle.cue_snap.proofs.ReaderLemmas.{good_pair}
use Rattle.cue_snap.proofs.laws.pair_that_reads_is_good.Goals as goal

pub returns : goal.returns
returns c = good_pair
