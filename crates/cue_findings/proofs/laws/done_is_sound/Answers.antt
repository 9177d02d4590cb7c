use Rattle.cue_findings.proofs.CheckingLemmas.{done-is_sound}
use Rattle.cue_findings.proofs.laws.done_is_sound.Goals as goal

pub returns : goal.returns
returns c = done-is_sound
