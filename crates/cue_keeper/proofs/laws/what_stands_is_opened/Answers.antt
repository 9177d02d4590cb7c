use Rattle.cue_keeper.proofs.RefusedLemmas.{is_opened}
use Rattle.cue_keeper.proofs.laws.what_stands_is_opened.Goals as goal

pub returns : goal.returns
returns c = is_opened
