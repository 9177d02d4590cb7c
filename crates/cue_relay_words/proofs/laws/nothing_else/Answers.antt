use Rattle.cue_relay_words.proofs.PlanLemmas.{nothing-else}
use Rattle.cue_relay_words.proofs.laws.nothing_else.Goals as goal

pub returns : goal.returns
returns c = nothing-else
