use Rattle.cue_log.proofs.SettledLemmas.{reads_as}
use Rattle.cue_log.proofs.log.Log.form.Goals as goal

pub returns-in-Ok-clause-formed : goal.returns-in-Ok-clause-formed
returns-in-Ok-clause-formed g c =
    λ honest. reads_as _ _ _ (c.in-Ok.ensures.settled honest) (c.in-Ok.ensures.area honest)
