use Rattle.cue_device_c.proofs.RoundLemmas.{stand_for_it}
use Rattle.cue_device_c.proofs.laws.numbers_stand_for_their_device.Goals as goal

pub returns : goal.returns
returns c = λ d controller only may. stand_for_it d controller only may
