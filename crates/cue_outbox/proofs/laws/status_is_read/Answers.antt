use Rattle.cue_outbox.proofs.ReadBackLemmas.{status-is-read}
use Rattle.cue_outbox.proofs.laws.status_is_read.Goals as goal

pub returns : goal.returns
returns c = status-is-read
