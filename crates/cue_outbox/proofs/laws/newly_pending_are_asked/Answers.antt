use Rattle.cue_outbox.proofs.NewlyPendingLemmas.{newly-pending-are-asked}
use Rattle.cue_outbox.proofs.laws.newly_pending_are_asked.Goals as goal

pub returns : goal.returns
returns c = newly-pending-are-asked
