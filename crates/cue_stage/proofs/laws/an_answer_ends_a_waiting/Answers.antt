use Rattle.cue_stage.proofs.TakenAnswerLemmas.{an_answer_ends_a_waiting}
use Rattle.cue_stage.proofs.laws.an_answer_ends_a_waiting.Goals as goal

pub returns : goal.returns
returns c = an_answer_ends_a_waiting
