use Rattle.cue_relay_words.proofs.PlanLemmas.{each-is-relayed}
use Rattle.cue_relay_words.proofs.laws.each_is_relayed.Goals as goal

pub returns : goal.returns
returns c = each-is-relayed
