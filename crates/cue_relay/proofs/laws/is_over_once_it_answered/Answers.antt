use Rattle.cue_relay.proofs.MotionLemmas.{is-over-once-it-answered}
use Rattle.cue_relay.proofs.laws.is_over_once_it_answered.Goals as goal

pub returns : goal.returns
returns c = is-over-once-it-answered
