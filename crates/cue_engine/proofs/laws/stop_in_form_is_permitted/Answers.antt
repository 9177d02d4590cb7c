use Rattle.cue_engine.proofs.PermittedLemmas.{stop_in_form as law}
use Rattle.cue_engine.proofs.laws.stop_in_form_is_permitted.Goals as goal

pub returns : goal.returns
returns g c = let d = g.D.Disk in law d.moment d.held d.held_at d.is_honest g.met.D.Disk.held_now
