use Rattle.std.proofs.Common.{◌∙◌, [], ap, arith, length, refl}
use Rattle.cue_engine.specs.Observed.{state_of}
use Rattle.cue_keeper.specs.Observed as kept
use Rattle.cue_run.specs.declared.groups.round.Round.{Round}
use Rattle.cue_run.proofs.OfferLemmas.{stays_offered}
use Rattle.cue_run.proofs.RoundLemmas.{closed_round, stopped_round, after_rest, none_offered}
use Rattle.cue_run.proofs.WatchLemmas.{batch_of_each, showed_none}
use Rattle.cue_run.proofs.WorkLemmas.{begins}
use Rattle.cue_run.proofs.groups.round.take_round.Goals as goal

pub close_round-requires-clause-emptied : goal.close_round-requires-clause-emptied
close_round-requires-clause-emptied g c =
    c.in-Ok.ensures.offered.0.offered.queue ∙ (c.rest.ensures.queue ∙ c.requires.emptied)

pub close_round-requires-clause-some : goal.close_round-requires-clause-some
close_round-requires-clause-some g c = omega (arith, c.deref.ensures.len, c.in-Ok.ensures.offered.1)

pub close_round-requires-clause-each : goal.close_round-requires-clause-each
close_round-requires-clause-each g c =
    let offered = c.in-Ok.ensures.offered.0.offered in
    let is_offered = offered.offered [] (none_offered c.rest.ensures.offered c.requires.none) in
    omega (
      arith,
      c.deref.ensures.len,
      offered.number,
      ap length is_offered.batches ∙ batch_of_each (state_of c.offer_group.new.engine) offered.inputs,
    )

pub returns-in-Ok-clause-round : goal.returns-in-Ok-clause-round
returns-in-Ok-clause-round g c =
    after_rest c.rest.ensures.keeper
    (closed_round {D = g.row.D.Denot} {disk = g.D.Disk} g.met.D.Disk.held_now
    (none_offered c.rest.ensures.offered c.requires.none) c.in-Ok.ensures.offered
    (begins refl c.state-state.ensures.stands) (rw c.deref.ensures.len at c.close_round.ensures.closed))

pub returns-in-Err-clause-round : goal.returns-in-Err-clause-round
returns-in-Err-clause-round g c =
    let offered = c.in-Err.ensures.offered in
    after_rest c.rest.ensures.keeper
    (stopped_round {D = g.row.D.Denot} {disk = g.D.Disk} g.met.D.Disk.held_now c.in-Err.stop c.none.ensures
    c.requires.some (begins refl c.state-state.ensures.stands) offered.0 offered.1)

pub returns-in-Err-clause-emptied : goal.returns-in-Err-clause-emptied
returns-in-Err-clause-emptied g c =
    c.in-Err.ensures.offered.0.queue ∙ (c.rest.ensures.queue ∙ c.requires.emptied)

pub returns-in-Err-clause-dropped : goal.returns-in-Err-clause-dropped
returns-in-Err-clause-dropped g c =
    stays_offered c.in-Err.ensures.offered.0 (none_offered c.rest.ensures.offered c.requires.none)

pub returns-in-Ok-clause-showed : goal.returns-in-Ok-clause-showed
returns-in-Ok-clause-showed g c =
    let same = ap kept.state_of (c.in-Ok.ensures.offered.0.offered.keeper ∙ c.rest.ensures.keeper) in
    rw same at c.close_round.ensures.showed

pub returns-in-Err-clause-showed : goal.returns-in-Err-clause-showed
returns-in-Err-clause-showed g c =
    showed_none (g.V.Watch.seen c.args.watch.now) (ap (λ (r : Round). r.turns) c.none.ensures)
    (ap kept.state_of (c.in-Err.ensures.offered.0.keeper ∙ c.rest.ensures.keeper))
