use Rattle.cue_house.proofs.ForItLemmas.{from_a_finger_to_a_machine}
use Rattle.cue_house.proofs.laws.from_a_finger_to_a_machine.Goals as goal

pub returns : goal.returns
returns c = from_a_finger_to_a_machine
