use Rattle.cue_snap.proofs.ReaderLemmas.{pair_found}
use Rattle.cue_snap.proofs.laws.reader_finds_each_pair.Goals as goal

pub returns : goal.returns
returns c = pair_found
