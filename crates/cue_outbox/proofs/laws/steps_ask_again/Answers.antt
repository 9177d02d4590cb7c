use Rattle.cue_outbox.proofs.NewlyPendingLemmas.{steps-ask-again}
use Rattle.cue_outbox.proofs.laws.steps_ask_again.Goals as goal

pub returns : goal.returns
returns c = steps-ask-again
