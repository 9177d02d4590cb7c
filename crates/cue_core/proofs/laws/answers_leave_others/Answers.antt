use Rattle.cue_core.proofs.verdicts.AnswerLemmas.{answers-leave-others}
use Rattle.cue_core.proofs.laws.answers_leave_others.Goals as goal

pub returns : goal.returns
returns c = answers-leave-others
