use Rattle.std.proofs.Common.{Err, inl, ap, arith}
use Rattle.cue_disk.proofs.MomentLemmas.{weaker}
use Rattle.cue_log.specs.Area.{fresh}
use Rattle.cue_log.specs.Log.{IsNoneOr}
use Rattle.cue_log.specs.Observed.{disk_of}
use Rattle.cue_snap.specs.Pair.{IsUnformedOr}
use Rattle.cue_snap.proofs.BarrierLemmas.{entry_pairs, barrier_runs, formed_pair}
use Rattle.cue_snap.proofs.DisksLemmas.{the_fault, no_fault, keeps_then}
use Rattle.cue_snap.proofs.snap.Snap.form.Goals as goal

-- nothing was written
pub returns-in-Err-clause-forms : goal.returns-in-Err-clause-forms
returns-in-Err-clause-forms g c =
    let d = g.D.Disk in
    let a = c.args.first in
    let b = c.args.second in
    record {
      formed = λ _ _. tt;
      empty = λ _ _. tt;
      not_empty = λ first second is. c.in-Err.ensures.not_empty first second (ap Err (the_fault _ _ is));
      unwritten = λ _. c.look.ensures.first;
      failed = λ is. c.in-Err.ensures.failed (ap Err (the_fault _ _ is));
      moments = λ first second.
          entry_pairs d.moment d.held d.held_at a b c.look.new.first c.look.new.second
          (IsUnformedOr (fresh 1 c.args.snapshot.now) (d.held a) (d.held b))
          (c.look.ensures.first.moments first) (c.look.ensures.second.moments second)
          (λ x y left_x left_y. inl (left_x, left_y));
      first_kept = c.look.ensures.first.keeps;
      second_kept = c.look.ensures.second;
    }

pub returns-in-Err-form_first-clause-forms : goal.returns-in-Err-form_first-clause-forms
returns-in-Err-form_first-clause-forms g c =
    let d = g.D.Disk in
    let a = c.args.first in
    let b = c.args.second in
    let mid = c.look.new.first in
    let new = c.in-Err-form_first.first in
    let area = fresh 1 c.args.snapshot.now in
    let failed = c.in-Err-form_first.ensures in
    record {
      formed = λ _ _. tt;
      empty = λ _ _. tt;
      not_empty = λ _ _ is. absurd (cc is);
      unwritten = λ is. absurd (cc is);
      failed = λ _. inl (omega (arith, c.look.ensures.first.keeps.failures, failed.count.0));
      moments = λ first second.
          let mid_a = c.look.ensures.first.keeps.honest.1 first in
          let mid_b = c.look.ensures.second.keeps.honest.1 second in
          barrier_runs d.moment d.held d.held_at a b mid new c.look.new.second
          (IsUnformedOr area (d.held a) (d.held b))
          (g.met.D.Disk.held_now a first) (g.met.D.Disk.held_now b second)
          (g.met.D.Disk.held_now c.look.new.second mid_b) (g.met.D.Disk.reads_as_image c.look.new.second mid_b)
          (c.look.ensures.first.moments first) (c.look.ensures.second.moments second)
          (λ y left_y. weaker d.moment d.held_at mid new (IsNoneOr area)
          (λ x. IsUnformedOr area (d.held a) (d.held b) x y)
          (λ x is. formed_pair area (d.held a) (d.held b) x y is
          (c.in_default.ensures.second_stays second y left_y)) (failed.any_moment mid_a));
      first_kept = keeps_then d a mid new c.look.ensures.first.keeps
          (record { honest = failed.honest; failures = failed.count.1 });
      second_kept = c.look.ensures.second;
    }

pub returns-in-Ok-clause-forms : goal.returns-in-Ok-clause-forms
returns-in-Ok-clause-forms g c =
    let d = g.D.Disk in
    let a = c.args.first in
    let b = c.args.second in
    let mid = c.look.new.first in
    let new = disk_of c.in-Ok.log in
    let area = fresh 1 c.args.snapshot.now in
    let made = c.in-Ok.ensures in
    record {
      formed = λ first second x y left_x left_y. inl (
        made.formed (c.look.ensures.first.keeps.honest.1 first) x left_x,
        inl (c.in_default.ensures.second_stays second y left_y),
      );
      empty = c.in_default.ensures.empty;
      not_empty = λ _ _ is. no_fault _ is;
      unwritten = λ is. no_fault _ is;
      failed = λ is. no_fault _ is;
      moments = λ first second.
          let mid_a = c.look.ensures.first.keeps.honest.1 first in
          let mid_b = c.look.ensures.second.keeps.honest.1 second in
          barrier_runs d.moment d.held d.held_at a b mid new c.look.new.second
          (IsUnformedOr area (d.held a) (d.held b))
          (g.met.D.Disk.held_now a first) (g.met.D.Disk.held_now b second)
          (g.met.D.Disk.held_now c.look.new.second mid_b) (g.met.D.Disk.reads_as_image c.look.new.second mid_b)
          (c.look.ensures.first.moments first) (c.look.ensures.second.moments second)
          (λ y left_y. weaker d.moment d.held_at mid new (IsNoneOr area)
          (λ x. IsUnformedOr area (d.held a) (d.held b) x y)
          (λ x is. formed_pair area (d.held a) (d.held b) x y is
          (c.in_default.ensures.second_stays second y left_y)) (made.any_moment mid_a));
      first_kept = keeps_then d a mid new c.look.ensures.first.keeps
          (record { honest = made.honest; failures = omega (arith, made.count) });
      second_kept = c.look.ensures.second;
    }
