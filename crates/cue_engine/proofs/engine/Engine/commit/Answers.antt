use Rattle.std.proofs.Common.{◌≡◌, [], List, None, refl, sym, ◌∙◌, ap, subst}
use Rattle.cue_core.specs.declared.event.Event.{Event}
use Rattle.cue_keeper.specs.Accepting.{Accepts}
use Rattle.cue_keeper.specs.Observed as kept
use Rattle.cue_keeper.proofs.CommittedLemmas.{none_given}
use Rattle.cue_engine.specs.Groups.{offered_batches}
use Rattle.cue_engine.proofs.engine.Engine.commit.Goals as goal

-- no call was made
pub returns-in-None-clause-accepts : goal.returns-in-None-clause-accepts
returns-in-None-clause-accepts g c =
    let old = c.args.self.now.keeper in
    let s = kept.state_of old in
    let works = sym c.is_broken.ensures.broken ∙ c.if-is_broken.false in
    let none : offered_batches c.args.self.now.offered ≡ [] = ap offered_batches (sym c.take-offered.ensures.value
    ∙ c.in-None.is) in
    subst (λ (bs : List (List Event)). Accepts bs None old old) (sym none)
    (record {
      state = refl;
      stands = λ first second. c.is_broken.ensures.stands first second works;
      pair = none_given s [] (kept.pair_of old) g.met.D.Disk.held_now (λ h k. c.is_broken.ensures.stands h k works)
          works refl;
    })
