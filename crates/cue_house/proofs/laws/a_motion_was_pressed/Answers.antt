use Rattle.cue_house.proofs.HouseLemmas.{a_motion_was_pressed}
use Rattle.cue_house.proofs.laws.a_motion_was_pressed.Goals as goal

pub returns : goal.returns
returns c = a_motion_was_pressed
