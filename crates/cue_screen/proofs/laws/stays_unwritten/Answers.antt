use Rattle.cue_screen.proofs.LawLemmas.{stays-unwritten}
use Rattle.cue_screen.proofs.laws.stays_unwritten.Goals as goal

pub returns : goal.returns
returns c = stays-unwritten
