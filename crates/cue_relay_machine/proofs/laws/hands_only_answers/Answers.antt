use Rattle.cue_relay_machine.proofs.LawLemmas.{hands-only-answers}
use Rattle.cue_relay_machine.proofs.laws.hands_only_answers.Goals as goal

pub returns : goal.returns
returns c = hands-only-answers
