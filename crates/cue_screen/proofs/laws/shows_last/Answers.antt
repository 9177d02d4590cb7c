use Rattle.cue_screen.proofs.LawLemmas.{shows-last}
use Rattle.cue_screen.proofs.laws.shows_last.Goals as goal

pub returns : goal.returns
returns c = shows-last
