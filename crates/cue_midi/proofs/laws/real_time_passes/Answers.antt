use Rattle.cue_midi.proofs.LawLemmas.{real_time-passes}
use Rattle.cue_midi.proofs.laws.real_time_passes.Goals as goal

pub returns : goal.returns
returns c = real_time-passes
