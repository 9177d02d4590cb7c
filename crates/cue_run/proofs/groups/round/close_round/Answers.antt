use Rattle.std.proofs.Common.{inl, inr, Err, ap, refl, sym}
use Rattle.cue_engine.specs.Observed.{offered_of}
use Rattle.cue_run.specs.declared.groups.round.Round.{Round}
use Rattle.cue_run.proofs.WatchLemmas.{showed_none}
use Rattle.cue_run.proofs.groups.round.close_round.Goals as goal

pub returns-in-Ok-clause-closed : goal.returns-in-Ok-clause-closed
returns-in-Ok-clause-closed g c = inl (record {
  turns = refl;
  stop = c.stop_of.ensures;
  accepts = c.in-Ok.ensures.accepts;
  handed = c.in-Ok.ensures.handed;
})

pub returns-in-Err-clause-closed : goal.returns-in-Err-clause-closed
returns-in-Err-clause-closed g c = inr (record {
  why = c.in-Err.fault;
  turns = ap (λ (r : Round). r.turns) c.none.ensures;
  unsent = ap (λ (r : Round). r.unsent) c.none.ensures;
  stop = ap (λ (r : Round). r.stop) c.none.ensures;
  accepts = c.in-Err.ensures.accepts;
  not_full = λ fits is. c.in-Err.ensures.no_full fits (ap Err is);
  told_same = c.in-Err.ensures.handed;
})

pub returns-in-Ok-clause-showed : goal.returns-in-Ok-clause-showed
returns-in-Ok-clause-showed g c = record {
  looks = offered_of c.args.engine.now;
  each = sym c.requires.each;
  saw = c.in-Ok.ensures.saw;
  made = c.in-Ok.ensures.accepts.state;
}

pub returns-in-Err-clause-showed : goal.returns-in-Err-clause-showed
returns-in-Err-clause-showed g c =
    rw c.in-Err.ensures.saw
    (showed_none (g.V.Watch.seen c.args.watch.now) (ap (λ (r : Round). r.turns) c.none.ensures)
    c.in-Err.ensures.accepts.state)
