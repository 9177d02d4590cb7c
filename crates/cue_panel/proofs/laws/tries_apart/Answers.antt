use Rattle.cue_panel.proofs.LawLemmas.{tries-apart}
use Rattle.cue_panel.proofs.laws.tries_apart.Goals as goal

pub returns : goal.returns
returns c = tries-apart
