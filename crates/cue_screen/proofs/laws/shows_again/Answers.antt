use Rattle.cue_screen.proofs.LawLemmas.{shows-again}
use Rattle.cue_screen.proofs.laws.shows_again.Goals as goal

pub returns : goal.returns
returns c = shows-again
