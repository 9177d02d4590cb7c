use Rattle.cue_engine.proofs.PermittedLemmas.{stop_in_recovery as law}
use Rattle.cue_engine.proofs.laws.stop_in_recovery_is_permitted.Goals as goal

pub returns : goal.returns
returns g c = let d = g.D.Disk in law d.moment d.held d.held_at d.is_honest g.met.D.Disk.held_now
