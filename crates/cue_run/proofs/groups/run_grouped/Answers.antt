use Rattle.std.proofs.Common.{◌∙◌, Some, ap, refl, inl, arith}
use Rattle.cue_keeper.specs.Observed as kept
use Rattle.cue_keeper.specs.declared.fault.Fault.TheVariants.{Memory}
use Rattle.cue_run.specs.declared.turns.RunFault.TheVariants as fault
use Rattle.cue_run.proofs.RoundLemmas.{begun, ended, through_ended}
use Rattle.cue_run.proofs.WatchLemmas.{showed_nothing}
use Rattle.cue_run.proofs.WorkLemmas.{begins}
use Rattle.cue_run.proofs.groups.run_grouped.Goals as goal

pub returns-in-Err : goal.returns-in-Err
returns-in-Err g c =
    let withdrew = c.withdraw.ensures in
    let handed = c.hand_out-unsent.ensures in
    let same = handed.keeper ∙ withdrew.keeper in
    let run = begun {D = g.row.D.Denot} {disk = g.D.Disk} g.met.D.Disk.held_now
    (omega (arith, c.hand_out-unsent.type_inv)) (begins same c.state-state.ensures.stands) same
    withdrew.queue withdrew.dropped handed.handed handed.offered handed.emptied in
    record {
      ran = ended (Some (fault.Engine Memory)) run (omega arith) (inl (refl, refl, refl, same));
      through = through_ended {D = g.row.D.Denot} {disk = g.D.Disk} g.met.D.Disk.held_now
          (g.S.Source.left c.args.source.now) run refl;
      dropped = run.dropped;
      showed = showed_nothing (g.V.Watch.seen c.args.watch.now) (ap kept.state_of same);
    }
