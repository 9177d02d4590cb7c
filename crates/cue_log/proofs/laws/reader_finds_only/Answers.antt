use Rattle.cue_log.proofs.SoundLemmas.{sound}
use Rattle.cue_log.proofs.laws.reader_finds_only.Goals as goal

pub returns : goal.returns
returns c = sound
