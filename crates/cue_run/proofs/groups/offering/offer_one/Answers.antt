use Rattle.std.proofs.Common.{[], ◌∷◌, Err, ap, arith, refl}
use Rattle.cue_keeper.specs.Observed as kept
use Rattle.cue_engine.specs.Inputs.{input_view}
use Rattle.cue_engine.proofs.CommittingLemmas.{offered_next}
use Rattle.cue_run.proofs.groups.offering.offer_one.Goals as goal

pub returns-in-Ok-clause-offered : goal.returns-in-Ok-clause-offered
returns-in-Ok-clause-offered g c = λ size left left_then came.
    let input = input_view c.args.input in
    let said = c.offer.ensures in (
      record {
        inputs = (c.args.now, input) ∷ [];
        number = omega arith;
        gave = came;
        offered = λ inputs offered. offered_next inputs c.args.now input c.in-Ok.counts c.args.engine.now
            c.offer.new.self (ap kept.state_of said.keeper) offered c.in-Ok.ensures.offers;
        keeper = said.keeper;
        queue = said.queue;
      },
      omega arith,
      c.in-Ok.ensures.room,
    )

pub returns-in-Err-clause-offered : goal.returns-in-Err-clause-offered
returns-in-Err-clause-offered g c = λ size left left_then came.
    let said = c.in-Err.ensures in (
      record { keeper = said.keeper; queue = said.queue; batches = said.refused.0; sends = said.refused.1 },
      refl,
      (
        ((c.args.now, input_view c.args.input), came),
        ((λ is. said.broken.0 (ap Err is), λ broken. let same = said.broken.1 broken in cc), said.memory),
      ),
    )
