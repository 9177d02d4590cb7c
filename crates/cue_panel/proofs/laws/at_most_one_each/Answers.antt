use Rattle.cue_panel.proofs.LawLemmas.{at-most_one_each}
use Rattle.cue_panel.proofs.laws.at_most_one_each.Goals as goal

pub returns : goal.returns
returns c = at-most_one_each
