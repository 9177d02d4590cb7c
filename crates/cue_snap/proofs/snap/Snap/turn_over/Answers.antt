use Rattle.std.proofs.Common.{◌≡◌, ◌+◌, ◌<◌, ℕ, inl, refl, sym, ◌∙◌, ap, subst, arith}
use Rattle.std.proofs.lemmas.Bool.{both_ways}
use Rattle.cue_disk.proofs.MomentLemmas.{started, weaker}
use Rattle.cue_disk.specs.Disk.{LeavesAtEachMoment, overwritten_bytes}
use Rattle.cue_log.specs.Area.{fresh, formed_text}
use Rattle.cue_log.specs.Observed as log
use Rattle.cue_snap.specs.Pair.{PairReads, PairIsEither, LeavesOlder, IsOldOrNew}
use Rattle.cue_snap.proofs.DisksLemmas.{keeps_still}
use Rattle.cue_snap.proofs.PairLemmas.{turn_reads, area_leaves_older, older_of}
use Rattle.cue_snap.proofs.snap.Snap.turn_over.Goals as goal

-- no call was made
pub returns-in_default : goal.returns-in_default
returns-in_default g c = record {
  turns_over = record {
    cause = (c.if-self.false, omega (arith, c.in_default.ensures, c.generation.ensures.number));
    after = refl;
    broken = λ is. absurd (both_ways _ c.if-self.false is);
    exhausted = λ _ _. refl;
    turned = tt;
    formed = λ _ _. tt;
    area = λ _. tt;
    bytes = λ _. tt;
    any_moment = λ live spare works x left.
        let pair = c.args.self.now in
        let held = g.D.Disk.held pair.spare in
        let area = log.area_of g.D.Disk.held pair.log in
        started g.D.Disk.moment g.D.Disk.held_at pair.spare held
        (PairIsEither area (fresh (log.generation_of pair.log + 1) c.args.snapshot.now) x)
        (g.met.D.Disk.held_now pair.spare spare)
        (λ y left_y. turn_reads held area (log.generation_of pair.log) c.args.snapshot.now x y (pair.numbered live works)
        (pair.reads live works x left) (pair.older spare works) (inl (inl left_y)));
    spare = keeps_still g.D.Disk c.args.self.now.spare;
  };
}

pub returns-in-Err : goal.returns-in-Err
returns-in-Err g c =
    let failed = c.in-Err.ensures in
    record {
      turns_over = record {
        cause = (c.if-self.false, failed.count.0);
        after = record {
          broken = refl;
          live = ap log.disk_of failed.unchanged;
          sides = refl;
          generation = ap log.generation_of failed.unchanged;
          count = ap log.count_of failed.unchanged;
          end = ap log.end_of failed.unchanged;
        };
        broken = λ is. absurd (both_ways _ c.if-self.false is);
        exhausted = λ _ last. absurd (omega (arith, last, c.in-Some.ensures, c.generation.ensures.number));
        turned = tt;
        formed = λ _ _. tt;
        area = λ _. tt;
        bytes = λ _. tt;
        any_moment = λ live spare works x left.
            let pair = c.args.self.now in
            let held = g.D.Disk.held pair.spare in
            let area = log.area_of g.D.Disk.held pair.log in
            let generation : ℕ = log.generation_of pair.log in
            let next : c.in-Some.next ≡ generation + 1 = omega (arith, c.in-Some.ensures, c.generation.ensures.number) in
            weaker g.D.Disk.moment g.D.Disk.held_at pair.spare c.turn_over_to.new.spare
            (IsOldOrNew held (fresh (generation + 1) c.args.snapshot.now))
            (PairIsEither area (fresh (generation + 1) c.args.snapshot.now) x)
            (λ y is. turn_reads held area generation c.args.snapshot.now x y (pair.numbered live works)
            (pair.reads live works x left) (pair.older spare works) is)
            (subst (λ (n : ℕ). LeavesAtEachMoment g.D.Disk.moment g.D.Disk.held_at pair.spare c.turn_over_to.new.spare
            (IsOldOrNew held (fresh n c.args.snapshot.now))) next (c.in-Err.ensures.any_moment spare));
        spare = record { honest = failed.honest; failures = failed.count.1 };
      };
    }

pub returns : goal.returns
returns g c =
    let pair = c.args.self.now in
    let held = g.D.Disk.held in
    let turned = c.in_default-turn_over_to.ensures in
    let generation : ℕ = log.generation_of pair.log in
    let next : c.in-Some.next ≡ generation + 1 = omega (arith, c.in-Some.ensures, c.generation.ensures.number) in
    record {
      turns_over = record {
        cause = tt;
        after = tt;
        broken = λ is. absurd (both_ways _ c.if-self.false is);
        exhausted = λ _ last. absurd (omega (arith, last, c.in-Some.ensures, c.generation.ensures.number));
        turned = record {
          works = c.if-self.false;
          swapped = turned.swapped;
          sides = refl;
          generation = turned.numbers.0 ∙ next;
          count = turned.numbers.1;
          end = turned.numbers.2;
        };
        formed = λ live spare x y left_x left_y.
            subst (λ (n : ℕ). PairReads (fresh n c.args.snapshot.now) x y) next
            (inl (
              turned.formed spare x left_x,
              older_of (held c.turn_over_to.new.spare) c.in-Some.next
                  (subst (λ (disk : _). LeavesOlder (held disk) c.in-Some.next) (sym turned.swapped)
                  (area_leaves_older (held (log.disk_of pair.log)) (log.area_of held pair.log) c.in-Some.next
                  (pair.reads live c.if-self.false) (omega (arith, pair.numbered live c.if-self.false, next)))) y left_y,
            ));
        area = λ spare. subst (λ (n : ℕ). log.area_of held c.turn_over_to.new.log ≡ fresh n c.args.snapshot.now) next (turned.area spare);
        bytes = λ spare.
            subst (λ (n : ℕ). (held (log.disk_of c.turn_over_to.new.log)).bytes
            ≡ overwritten_bytes (held pair.spare).bytes 0 (formed_text n c.args.snapshot.now)) next (turned.bytes spare);
        any_moment = λ live spare works x left.
            let pair = c.args.self.now in
            let held = g.D.Disk.held pair.spare in
            let area = log.area_of g.D.Disk.held pair.log in
            let generation : ℕ = log.generation_of pair.log in
            let next : c.in-Some.next ≡ generation + 1 = omega (arith, c.in-Some.ensures, c.generation.ensures.number) in
            weaker g.D.Disk.moment g.D.Disk.held_at pair.spare (log.disk_of c.turn_over_to.new.log)
            (IsOldOrNew held (fresh (generation + 1) c.args.snapshot.now))
            (PairIsEither area (fresh (generation + 1) c.args.snapshot.now) x)
            (λ y is. turn_reads held area generation c.args.snapshot.now x y (pair.numbered live works)
            (pair.reads live works x left) (pair.older spare works) is)
            (subst (λ (n : ℕ). LeavesAtEachMoment g.D.Disk.moment
            g.D.Disk.held_at pair.spare (log.disk_of c.turn_over_to.new.log)
            (IsOldOrNew held (fresh n c.args.snapshot.now))) next (c.in_default-turn_over_to.ensures.any_moment spare));
        spare = record { honest = turned.honest; failures = omega (arith, turned.count) };
      };
    }

-- the area that was live is older than the new one
pub invariant_of-self-2-clause-older : goal.invariant_of-self-2-clause-older
invariant_of-self-2-clause-older g c = λ spare works.
    let pair = c.args.self.now in
    let area = log.area_of g.D.Disk.held pair.log in
    let swapped = c.in_default-turn_over_to.ensures.swapped in
    let live : g.D.Disk.is_honest (log.disk_of pair.log) =
    subst (λ (disk : _). g.D.Disk.is_honest disk) swapped spare in
    let lower : area.generation < log.generation_of c.turn_over_to.new.log =
    omega (
      arith,
      pair.numbered live works,
      c.in-Some.ensures,
      c.generation.ensures.number,
      c.in_default-turn_over_to.ensures.numbers,
    ) in
    subst (λ (disk : _). LeavesOlder (g.D.Disk.held disk) (log.generation_of c.turn_over_to.new.log)) (sym swapped)
    (area_leaves_older (g.D.Disk.held (log.disk_of pair.log)) area (log.generation_of c.turn_over_to.new.log)
    (pair.reads live works) lower)
