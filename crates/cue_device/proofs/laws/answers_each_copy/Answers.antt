use Rattle.cue_device.proofs.CopyLemmas.{ready_answers, done_answers, let_go_answers, failed_answers}
use Rattle.cue_device.proofs.laws.answers_each_copy.Goals as goal

pub returns-clause-ready : goal.returns-clause-ready
returns-clause-ready c = ready_answers

pub returns-clause-done : goal.returns-clause-done
returns-clause-done c = done_answers

pub returns-clause-let_go : goal.returns-clause-let_go
returns-clause-let_go c = let_go_answers

pub returns-clause-failed : goal.returns-clause-failed
returns-clause-failed c = failed_answers
