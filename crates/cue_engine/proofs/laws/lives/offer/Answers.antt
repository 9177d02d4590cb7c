use Rattle.std.proofs.Common.{ap}
use Rattle.cue_keeper.specs.Observed as kept
use Rattle.cue_engine.specs.Inputs.{input_view}
use Rattle.cue_engine.proofs.CommittingLemmas.{offered_next}
use Rattle.cue_engine.proofs.LifeLemmas.{lives_as_before, from_answer}
use Rattle.cue_engine.proofs.laws.lives.offer.Goals as goal

pub returns-clause-next : goal.returns-clause-next
returns-clause-next g c = λ inputs offered.
    let old = c.args.engine.now in
    let new = c.offer.new.self in
    from_answer c.offer.result c.offer.ensures.offers
    (λ counts offers. offered_next inputs c.args.now (input_view c.args.input) counts old new
    (ap kept.state_of c.offer.ensures.keeper) offered offers)

pub returns-clause-lives : goal.returns-clause-lives
returns-clause-lives g c = λ life runs. lives_as_before c.args.engine.now c.offer.new.self runs
    (ap kept.state_of c.offer.ensures.keeper) c.offer.ensures.queue
