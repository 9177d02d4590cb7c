use Rattle.std.proofs.Common.{◌≡◌, ◌∙◌, None, ap, refl, inl, arith}
use Rattle.cue_keeper.specs.Observed as kept
use Rattle.cue_run.proofs.RoundLemmas.{begun, ended, through_ended, round_more, round_last, through_last}
use Rattle.cue_run.proofs.WatchLemmas.{showed_first, showed_more}
use Rattle.cue_run.proofs.WorkLemmas.{begins}
use Rattle.cue_run.proofs.groups.run_rounds.Goals as goal

pub loop-taken-init : goal.loop-taken-init
loop-taken-init g c =
    let withdrew = c.withdraw.ensures in
    let handed = c.hand_out-unsent.ensures in
    let same = handed.keeper ∙ withdrew.keeper in (
      rw c.look.ensures.told
          (begun {D = g.row.D.Denot} {disk = g.D.Disk} g.met.D.Disk.held_now
          (omega (arith, c.hand_out-unsent.type_inv))
          (begins same (rw same at c.state.ensures.stands)) same withdrew.queue withdrew.dropped handed.handed
          handed.offered handed.emptied),
      refl,
      refl,
      omega arith,
      showed_first (ap kept.state_of same) c.look.ensures.seen,
    )

pub loop-taken-preserved : goal.loop-taken-preserved
loop-taken-preserved g c =
    let now = c.loop-taken.invariant in
    let r = c.take_round-round.ensures in
    let one = rw now.1 at r.round in (
      round_more {D = g.row.D.Denot} {disk = g.D.Disk} g.met.D.Disk.held_now
          c.saturating_add-unsent.ensures now.0 one r.emptied c.in_default.is r.dropped,
      c.take_round-round.auto.buffer ∙ now.1,
      r.capacity ∙ now.2,
      omega (arith, one.at_most, c.min-room.ensures, c.loop-taken-test.true),
      showed_more now.4 r.showed,
    )

pub returns-in-Some-clause-ran : goal.returns-in-Some-clause-ran
returns-in-Some-clause-ran g c =
    let now = c.loop-taken.invariant in
    let r = c.take_round-round.ensures in
    round_last {D = g.row.D.Denot} {disk = g.D.Disk} g.met.D.Disk.held_now
    c.saturating_add-unsent.ensures now.0 (rw now.1 at r.round) r.emptied c.in-Some.stop c.fault_of.result
    c.in-Some.is c.fault_of.ensures (omega (arith, c.min-room.ensures, now.2))
    (omega (arith, c.min-room.ensures, c.loop-taken-test.true))

pub returns-in-Some-clause-through : goal.returns-in-Some-clause-through
returns-in-Some-clause-through g c =
    let now = c.loop-taken.invariant in
    let r = c.take_round-round.ensures in
    through_last {D = g.row.D.Denot} {disk = g.D.Disk} g.met.D.Disk.held_now c.saturating_add-unsent.ensures now.0
    (rw now.1 at r.round) r.emptied

pub returns-in-Some-clause-dropped : goal.returns-in-Some-clause-dropped
returns-in-Some-clause-dropped g c = c.take_round-round.ensures.dropped

pub returns-clause-ran : goal.returns-clause-ran
returns-clause-ran g c =
    let now = c.loop-taken.invariant in
    let all : c.loop-taken.taken ≡ c.args.turns = omega (arith, c.loop-taken-test.false, now.3) in
    ended None (rw all at now.0) (omega arith) (inl (refl, refl))

pub returns-clause-through : goal.returns-clause-through
returns-clause-through g c =
    let now = c.loop-taken.invariant in
    let all : c.loop-taken.taken ≡ c.args.turns = omega (arith, c.loop-taken-test.false, now.3) in
    through_ended {D = g.row.D.Denot} {disk = g.D.Disk} g.met.D.Disk.held_now
    (g.S.Source.left c.loop-taken.source) (rw all at now.0) refl

pub returns-clause-dropped : goal.returns-clause-dropped
returns-clause-dropped g c = c.loop-taken.invariant.0.dropped

pub returns-in-Some-clause-showed : goal.returns-in-Some-clause-showed
returns-in-Some-clause-showed g c = showed_more c.loop-taken.invariant.4 c.take_round-round.ensures.showed

pub returns-clause-showed : goal.returns-clause-showed
returns-clause-showed g c =
    let now = c.loop-taken.invariant in
    let all : c.loop-taken.taken ≡ c.args.turns = omega (arith, c.loop-taken-test.false, now.3) in
    rw all at now.4
