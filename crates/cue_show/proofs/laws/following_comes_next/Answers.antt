use Rattle.cue_show.proofs.OrderLemmas.{following_next}
use Rattle.cue_show.proofs.laws.following_comes_next.Goals as goal

pub returns : goal.returns
returns c = following_next
