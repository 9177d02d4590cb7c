use Rattle.cue_load_words.proofs.AnswerLemmas.{all_answered}
use Rattle.cue_load_words.proofs.adding.answers_of.Goals as goal

pub returns-clause-all : goal.returns-clause-all
returns-clause-all c = all_answered _ _ _ c.answers_in.ensures.each c.answers_in.ensures.all
