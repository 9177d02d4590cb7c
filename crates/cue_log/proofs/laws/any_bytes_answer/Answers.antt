use Rattle.cue_log.proofs.SoundLemmas.{any_bytes}
use Rattle.cue_log.proofs.laws.any_bytes_answer.Goals as goal

pub returns : goal.returns
returns c = any_bytes
