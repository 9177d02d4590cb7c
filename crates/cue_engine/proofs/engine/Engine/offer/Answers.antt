use Rattle.std.proofs.Common.{[], ◌∷◌, ◌++◌, List, sym, ◌∙◌, ap, subst, true≢false}
use Rattle.cue_core.specs.declared.event.Event.{Event}
use Rattle.cue_core.specs.State.{ShowState}
use Rattle.cue_keeper.specs.declared.fault.Fault.TheVariants as fault
use Rattle.cue_keeper.specs.Observed as kept
use Rattle.cue_keeper.specs.Turning.{IsInTheWay}
use Rattle.cue_keeper.proofs.CommittedLemmas.{one_is_free}
use Rattle.cue_records.proofs.TakingLemmas.{some_is}
use Rattle.cue_engine.specs.declared.offers.Offered.{Offered}
use Rattle.cue_engine.specs.Given.{given_of}
use Rattle.cue_engine.specs.Groups.{offered_batches}
use Rattle.cue_engine.specs.Inputs.{input_view}
use Rattle.cue_engine.specs.Takes.{InStep, IsAhead}
use Rattle.cue_engine.proofs.AssembledLemmas.{ahead_next}
use Rattle.cue_engine.proofs.CommittingLemmas.{next_fits}
use Rattle.cue_engine.proofs.engine.Engine.offer.Goals as goal

pub invariant_of-self : goal.invariant_of-self
invariant_of-self g c =
    let old = c.args.self.now in
    let s : ShowState = kept.state_of old.keeper in
    let new = c.offer_next.new in
    let said = c.offer_next.ensures in
    let ahead : IsAhead s new.draft new.offered = ahead_next c.offer_next.result s old.draft new.draft c.in-Some.offered
    new.offered (given_of old.draft.state c.args.now (input_view c.args.input)).batch
    (old.ahead c.in-Some.offered c.in-Some.is) said.marked said.draft said.in_turn said.group said.same in
    record {
      can_follow = λ valid. absurd (true≢false (sym valid ∙ said.marked));
      follows = λ valid. absurd (true≢false (sym valid ∙ said.marked));
      ahead = λ some is. subst (λ (o : Offered). IsAhead s new.draft o) (some_is new.offered some is) ahead;
      spare_follows = subst (λ (t : ShowState). InStep t new.spare) ahead.drafted said.spare;
    }

pub returns-in_ok-offer_next-in-Some-clause-room : goal.returns-in_ok-offer_next-in-Some-clause-room
returns-in_ok-offer_next-in-Some-clause-room g c =
    let old = c.args.self.now in
    let said = c.in_ok-offer_next-in-Some.ensures in
    let batch = (given_of old.draft.state c.args.now (input_view c.args.input)).batch in
    next_fits old c.offer_next.new.offered.group batch
    (said.group ∙ ap (λ (bs : List (List Event)). bs ++ batch ∷ []) (sym (ap offered_batches c.in-Some.is))) said.fits

-- one input alone has room
pub returns-in_ok-first-in-None-clause-room : goal.returns-in_ok-first-in-None-clause-room
returns-in_ok-first-in-None-clause-room g c = λ _ way.
    let pair = kept.pair_of c.args.self.now.keeper in
    one_is_free pair (given_of c.state.result.now c.args.now (input_view c.args.input)).batch
    (subst (λ (bs : List (List Event)). IsInTheWay pair bs fault.Full) c.in_ok-first-in-None.ensures.group way)
