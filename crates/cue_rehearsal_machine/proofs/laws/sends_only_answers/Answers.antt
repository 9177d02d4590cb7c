use Rattle.cue_rehearsal_machine.proofs.LawLemmas.{sends-only-answers}
use Rattle.cue_rehearsal_machine.proofs.laws.sends_only_answers.Goals as goal

pub returns : goal.returns
returns c = sends-only-answers
