use Rattle.cue_stage.proofs.CopyAnswerLemmas.{each_copy_is_answered}
use Rattle.cue_stage.proofs.laws.each_copy_is_answered.Goals as goal

pub returns : goal.returns
returns c = each_copy_is_answered
