use Rattle.std.proofs.Common.{[], ◌∷◌, sym, ◌∙◌, ◌≡◌, ◌⊎◌, inl, ℕ, Some, ap, subst}
use Rattle.cue_disk.specs.Disk.{IsImage, LeavesAtEachMoment, MoreFailures}
use Rattle.cue_snap.specs.Disks.{SomeFailed}
use Rattle.cue_snap.specs.Observed.{first_after, second_after}
use Rattle.cue_snap.proofs.BarrierLemmas.{entry_pairs}
use Rattle.cue_snap.proofs.ChosenLemmas.{refused_as}
use Rattle.cue_snap.proofs.DisksLemmas.{the_fault, no_fault, keeps_then}
use Rattle.cue_snap.proofs.RenewalLemmas.{at_made}
use Rattle.cue_keeper.specs.declared.fault.StoreFault.{StoreFault}
use Rattle.cue_keeper.specs.declared.fault.StoreFault.TheVariants as store
use Rattle.cue_keeper.specs.Stands.{StandsEither}
use Rattle.cue_keeper.specs.Observed as kept
use Rattle.cue_keeper.specs.Opening.{IsOfOpening}
use Rattle.cue_keeper.proofs.MovingLemmas.{opened_then, leaves_weaker}
use Rattle.cue_keeper.proofs.RefusedLemmas.{is_opened}
use Rattle.cue_core.specs.Batches.{closed_state}
use Rattle.cue_engine.specs.Recovery.{IsLeftOrStands}
use Rattle.cue_engine.specs.Observed.{first_of, second_of}
use Rattle.cue_engine.proofs.ReopenedLemmas.{left_or_stands, refused_but, left_over, opening_cause, cancels_refused}
use Rattle.cue_engine.proofs.ReopenedLemmas.{never_cancels}
use Rattle.cue_engine.specs.Opening.{IsOfCancels}
use Rattle.cue_engine.proofs.engine.Engine.recover.Goals as goal
use Rattle.cue_core.specs.Happenings.{events_at, recovered}
use Rattle.cue_core.specs.State.{ShowState}
use Rattle.cue_keeper.proofs.StandingLemmas.{one_state}
use Rattle.cue_engine.specs.Given.{account_of, given_recovery}

pub returns-in-Ok-clause-any_moment : goal.returns-in-Ok-clause-any_moment
returns-in-Ok-clause-any_moment g c = λ first second.
    let d = g.D.Disk in
    let a = c.args.first in
    let b = c.args.second in
    let keeper = c.in-Ok.keeper in
    let opens = c.in-Ok.ensures.opens.pair in
    let s = kept.state_of keeper in
    let new_a = first_after first_of c.close_opened.result in
    let new_b = second_after second_of c.close_opened.result in
    opened_then d.moment d.held d.held_at d.failures d.is_honest a b (kept.first_of keeper) (kept.second_of keeper)
    new_a new_b (IsLeftOrStands (d.held a) (d.held b)) (g.met.D.Disk.held_now a first)
    (g.met.D.Disk.held_now b second)
    (opens.first_kept.moments first) (opens.second_kept.moments second)
    (leaves_weaker d.moment d.held d.held_at d.failures d.is_honest (kept.first_of keeper) (kept.second_of keeper) new_a
    new_b (StandsEither s (closed_state s)) (IsLeftOrStands (d.held a) (d.held b))
    (left_or_stands (d.held a) (d.held b) (d.held a).bytes (d.held b).bytes s (g.met.D.Disk.reads_as_image a first)
    (g.met.D.Disk.reads_as_image b second) (c.in-Ok.ensures.stood first second))
    (c.close_opened.ensures.any_moment (opens.first_kept.keeps.honest.1 first)
    (opens.second_kept.keeps.honest.1 second)))

pub returns-in-Err-clause-any_moment : goal.returns-in-Err-clause-any_moment
returns-in-Err-clause-any_moment g c = λ first second.
    let d = g.D.Disk in
    let a = c.args.first in
    let b = c.args.second in
    entry_pairs d.moment d.held d.held_at a b c.in-Err.refused.1 c.in-Err.refused.2
    (IsLeftOrStands (d.held a) (d.held b)) (c.in-Err.ensures.opens.pair.first_kept.moments first)
    (c.in-Err.ensures.opens.pair.second_kept.moments second)
    (λ x y left_x left_y. inl (left_x, left_y))

pub returns-in-Ok-clause-stood : goal.returns-in-Ok-clause-stood
returns-in-Ok-clause-stood g c = λ first second. at_made c.close_opened.result
    (λ _ closed. record {
      before = kept.state_of c.in-Ok.keeper;
      stood = c.in-Ok.ensures.stood first second;
      is = closed.state;
    }) c.close_opened.ensures.closed

pub returns-in-Ok-clause-stands : goal.returns-in-Ok-clause-stands
returns-in-Ok-clause-stands g c = λ first second.
    let opens = c.in-Ok.ensures.opens.pair in
    c.close_opened.ensures.stands (opens.first_kept.keeps.honest.1 first) (opens.second_kept.keeps.honest.1 second)

pub returns-in-Ok-clause-recovered : goal.returns-in-Ok-clause-recovered
returns-in-Ok-clause-recovered g c =
    let d = g.D.Disk in
    let opens = c.in-Ok.ensures.opens.pair in
    let same = λ (first : d.is_honest c.args.first) (second : d.is_honest c.args.second).
    one_state (d.held c.args.first).bytes (d.held c.args.second).bytes (kept.state_of c.in-Ok.keeper) in
    at_made c.close_opened.result
    (λ engine closed. record {
      owes = closed.owes;
      last = λ first second s stands. closed.last ∙ ap (λ (t : ShowState). events_at t recovered ∷ [])
          (same first second s (c.in-Ok.ensures.stood first second) stands);
      account = λ first second s stands. closed.account ∙ ap (λ (t : ShowState). account_of (given_recovery t) ∷ [])
          (same first second s (c.in-Ok.ensures.stood first second) stands);
      turned = λ first second.
          rw (← opens.first_kept.bytes first, ← opens.second_kept.bytes second)
          (closed.turned (opens.first_kept.keeps.honest.1 first) (opens.second_kept.keeps.honest.1 second));
    }) c.close_opened.ensures.closed

pub returns-in-Ok-clause-refused : goal.returns-in-Ok-clause-refused
returns-in-Ok-clause-refused g c =
    let d = g.D.Disk in
    let a = c.args.first in
    let b = c.args.second in
    let mid_a = kept.first_of c.in-Ok.keeper in
    let mid_b = kept.second_of c.in-Ok.keeper in
    let result = c.close_opened.result in
    let opens = c.in-Ok.ensures.opens.pair in
    let closes = c.close_opened.ensures.refused in
    let went = opens.went_through (λ is. no_fault _ is) in
    let never = λ (f : StoreFault) (may : IsOfCancels f → ⊥). never_cancels f result may closes.no_other in
    let new_a = first_after first_of result in
    let new_b = second_after second_of result in
    record {
      cause = λ first second.
          rw (← opens.first_kept.bytes first, ← opens.second_kept.bytes second)
          (cancels_refused result _ _ closes.no_other
          (closes.exhausted (opens.first_kept.keeps.honest.1 first) (opens.second_kept.keeps.honest.1 second)));
      failed = refused_as store.Disk (SomeFailed d mid_a mid_b new_a new_b) (SomeFailed d a b new_a new_b) result
          (λ failed. subst (λ (n : ℕ). MoreFailures n (d.failures new_a)
          ⊎ MoreFailures (d.failures b) (d.failures new_b)) went.0
          (subst (λ (n : ℕ). MoreFailures (d.failures mid_a) (d.failures new_a)
          ⊎ MoreFailures n (d.failures new_b)) went.1 failed)) closes.failed;
      went_through = refused_but store.Disk _ result closes.unwritten
          (λ same. (ap d.failures same.0 ∙ went.0, ap d.failures same.1 ∙ went.1));
      no_other = (never store.NotEmpty (λ may. may), never store.Full (λ may. may));
      due_at_the_last = λ first second.
          rw (← opens.first_kept.bytes first, ← opens.second_kept.bytes second)
          (closes.due_at_the_last (opens.first_kept.keeps.honest.1 first) (opens.second_kept.keeps.honest.1 second));
      readable = λ _ _ _ _. (
        never store.Unformed (λ may. may),
        never store.Damaged (λ may. may),
        never store.Version (λ may. may),
        never store.Malformed (λ may. may),
      );
      unwritten = λ first second. refused_but store.Disk _ result closes.unwritten (λ same.
          let P = λ (was new : _). LeavesAtEachMoment d.moment d.held_at was new (IsImage (d.held was)) in (
            subst (P a) (sym same.0) (opens.first_kept.moments first),
            subst (P b) (sym same.1) (opens.second_kept.moments second),
          ));
    }

pub returns-in-Ok-clause-keeps : goal.returns-in-Ok-clause-keeps
returns-in-Ok-clause-keeps g c =
    let d = g.D.Disk in
    let opens = c.in-Ok.ensures.opens.pair in
    let closes = c.close_opened.ensures.keeps in (
      keeps_then d c.args.first (kept.first_of c.in-Ok.keeper) (first_after first_of c.close_opened.result)
          opens.first_kept.keeps closes.0,
      keeps_then d c.args.second (kept.second_of c.in-Ok.keeper) (second_after second_of c.close_opened.result)
          opens.second_kept.keeps closes.1,
    )

-- the store is not opened
pub returns-in-Err-clause-refused : goal.returns-in-Err-clause-refused
returns-in-Err-clause-refused g c =
    let d = g.D.Disk in
    let x = (d.held c.args.first).bytes in
    let y = (d.held c.args.second).bytes in
    let fault = c.in-Err.refused.0 in
    let opens = c.in-Err.ensures.opens in
    let never = λ (f : StoreFault) (is : fault ≡ f). subst IsOfOpening is opens.no_other in
    let cause = λ (first : d.is_honest c.args.first) (second : d.is_honest c.args.second). opening_cause fault x y
    opens.no_other (λ is. opens.pair.empty first second (ap Some is))
    (λ is. opens.pair.spoiled first second (ap Some is)) (λ is. opens.version first second (ap Some is))
    (λ is. opens.malformed first second (ap Some is)) in
    record {
      cause = cause;
      failed = λ is. opens.pair.failed (ap Some is);
      went_through = λ other. opens.pair.went_through (λ is. other (the_fault _ _ is));
      no_other = (never store.NotEmpty, never store.Full);
      due_at_the_last = λ first second none. left_over fault x y none.state
          (record { area = none.area; reads = none.needs.reads; stands = none.needs.stands }) (cause first second);
      readable = λ first second s stands.
          let good = is_opened x y s stands in (
            λ is. good.0 (opens.pair.empty first second (ap Some is)),
            λ is. good.1 (opens.pair.spoiled first second (ap Some is)),
            λ is. good.2 (opens.version first second (ap Some is)),
            λ is. good.3 (opens.malformed first second (ap Some is)),
          );
      unwritten = λ first second _. (opens.pair.first_kept.moments first, opens.pair.second_kept.moments second);
    }

pub returns-in-Err-clause-keeps : goal.returns-in-Err-clause-keeps
returns-in-Err-clause-keeps g c =
    (c.in-Err.ensures.opens.pair.first_kept.keeps, c.in-Err.ensures.opens.pair.second_kept.keeps)
