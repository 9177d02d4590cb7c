use Rattle.cue_curtain.proofs.LineLemmas.{presses-are-kept}
use Rattle.cue_curtain.proofs.laws.presses_are_kept.Goals as goal

pub returns : goal.returns
returns c = presses-are-kept
