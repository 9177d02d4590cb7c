use Rattle.cue_run.proofs.MomentLemmas.{each_moment}
use Rattle.cue_run.proofs.laws.lives.each_moment_is_safe.Goals as goal

pub returns : goal.returns
returns g c = each_moment g.D.Disk
