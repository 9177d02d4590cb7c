use Rattle.cue_relay.proofs.HearingLemmas.{silent-is-asked}
use Rattle.cue_relay.proofs.laws.silent_is_asked.Goals as goal

pub returns : goal.returns
returns c = silent-is-asked
