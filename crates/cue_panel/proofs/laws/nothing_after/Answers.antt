use Rattle.cue_panel.proofs.WishLemmas.{nothing-after}
use Rattle.cue_panel.proofs.laws.nothing_after.Goals as goal

pub returns : goal.returns
returns c = nothing-after
