use Rattle.cue_relay.proofs.HearingLemmas.{at-rest-is-not-silent}
use Rattle.cue_relay.proofs.laws.at_rest_is_not_silent.Goals as goal

pub returns : goal.returns
returns c = at-rest-is-not-silent
