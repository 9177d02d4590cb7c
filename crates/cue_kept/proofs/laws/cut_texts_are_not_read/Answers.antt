use Rattle.cue_kept.proofs.CutLemmas.{cut-texts-are-not-read}
use Rattle.cue_kept.proofs.laws.cut_texts_are_not_read.Goals as goal

pub returns : goal.returns
returns c = cut-texts-are-not-read
