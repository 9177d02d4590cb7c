use Rattle.cue_house.proofs.DecidedLemmas.{a_motion_was_asked}
use Rattle.cue_house.proofs.laws.a_motion_was_asked.Goals as goal

pub returns : goal.returns
returns c = a_motion_was_asked
