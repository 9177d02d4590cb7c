use Rattle.cue_keeper.proofs.RefusedLemmas.{opened_again}
use Rattle.cue_keeper.proofs.laws.what_is_closed_is_opened.Goals as goal

pub returns : goal.returns
returns c = opened_again
