use Rattle.cue_core.proofs.verdicts.CommuteLemmas.{answers-commute}
use Rattle.cue_core.proofs.laws.answers_commute.Goals as goal

pub returns : goal.returns
returns c = answers-commute
