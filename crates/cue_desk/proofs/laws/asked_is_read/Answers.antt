use Rattle.cue_desk.proofs.ReadLemmas.{asked-is_read}
use Rattle.cue_desk.proofs.laws.asked_is_read.Goals as goal

pub returns : goal.returns
returns c = asked-is_read
