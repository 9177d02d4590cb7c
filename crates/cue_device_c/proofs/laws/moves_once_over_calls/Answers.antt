use Rattle.cue_device_c.proofs.LifeLemmas.{moves_once_made}
use Rattle.cue_device_c.proofs.laws.moves_once_over_calls.Goals as goal

pub returns : goal.returns
returns c = λ number q given first s ss le made life e. moves_once_made number q given first s ss le made life e
