use Rattle.cue_outbox.proofs.ReadBackLemmas.{replies-are-read}
use Rattle.cue_outbox.proofs.laws.replies_are_read.Goals as goal

pub returns : goal.returns
returns c = replies-are-read
