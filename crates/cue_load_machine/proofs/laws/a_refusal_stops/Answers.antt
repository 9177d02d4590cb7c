use Rattle.cue_load_machine.proofs.DoneLemmas.{a-refusal-stops}
use Rattle.cue_load_machine.proofs.laws.a_refusal_stops.Goals as goal

pub returns : goal.returns
returns c = a-refusal-stops
