use Rattle.std.proofs.Common.{sym, subst}
use Rattle.cue_log.specs.Area.{fresh}
use Rattle.cue_log.specs.Log.{ReadsAs}
use Rattle.cue_log.proofs.SettledLemmas.{reads_as}
use Rattle.cue_log.proofs.log.Log.renew.Goals as goal

pub returns-clause-formed : goal.returns-clause-formed
returns-clause-formed g c = λ honest.
    subst (λ (disk : _). ReadsAs (g.D.Disk.held disk) (fresh c.args.generation c.args.snapshot.now))
    (sym c.swap.ensures.x_after)
    (reads_as _ _ _ (c.in_ok-form_on.ensures.settled honest) (c.in_ok-form_on.ensures.area honest))
