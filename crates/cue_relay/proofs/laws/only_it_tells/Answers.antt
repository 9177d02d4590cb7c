use Rattle.cue_relay.proofs.TellLemmas.{only-it-tells}
use Rattle.cue_relay.proofs.laws.only_it_tells.Goals as goal

pub returns : goal.returns
returns c = only-it-tells
