use Rattle.cue_relay_machine.proofs.CountLemmas.{counts-all}
use Rattle.cue_relay_machine.proofs.laws.counts_all.Goals as goal

pub returns : goal.returns
returns c = counts-all
