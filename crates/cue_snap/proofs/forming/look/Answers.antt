use Rattle.cue_snap.proofs.BarrierLemmas.{stays_absent}
use Rattle.cue_snap.proofs.forming.look.Goals as goal

pub returns-clause-first_stays : goal.returns-clause-first_stays
returns-clause-first_stays g c = λ honest.
    stays_absent (g.D.Disk.held c.args.first.now) (g.D.Disk.held c.is_absent.new.disk)
    (c.in_ok-first_is_absent.ensures.stable honest) (c.is_absent.ensures.bytes honest)
    ((c.in_ok-first_is_absent.ensures.absent honest).0 c.if-not-first_is_absent.false)

pub returns-clause-second_stays : goal.returns-clause-second_stays
returns-clause-second_stays g c = λ honest.
    stays_absent (g.D.Disk.held c.args.second.now) (g.D.Disk.held c.is_absent-2.new.disk)
    (c.in_ok-second_is_absent.ensures.stable honest) (c.is_absent-2.ensures.bytes honest)
    ((c.in_ok-second_is_absent.ensures.absent honest).0 c.if-not-second_is_absent.false)
