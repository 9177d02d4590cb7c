use Rattle.std.proofs.Common.{refl}
use Rattle.cue_disk.proofs.HistoryLemmas.{pushed}
use Rattle.cue_disk.proofs.medium.Medium.sync.Goals as goal

pub returns-clause-time : goal.returns-clause-time
returns-clause-time c = pushed _ _ _ _ _ c.in_ok-push.ensures.items refl
