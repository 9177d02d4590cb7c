use Rattle.cue_core.proofs.verdicts.ReadyLemmas.{ready_only_by_answer}
use Rattle.cue_core.proofs.laws.ready_only_by_answer.Goals as goal

pub returns : goal.returns
returns c = ready_only_by_answer
