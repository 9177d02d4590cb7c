use Rattle.cue_engine.proofs.PermittedLemmas.{stop_in_commit as law}
use Rattle.cue_engine.proofs.laws.stop_in_commit_is_permitted.Goals as goal

pub returns : goal.returns
returns g c = law g.D.Disk.moment g.D.Disk.held_at
