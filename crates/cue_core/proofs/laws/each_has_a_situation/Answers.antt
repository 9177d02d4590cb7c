use Rattle.cue_core.proofs.verdicts.JudgementLemmas.{each-has-a-situation}
use Rattle.cue_core.proofs.laws.each_has_a_situation.Goals as goal

pub returns : goal.returns
returns c = each-has-a-situation
