use Rattle.std.proofs.Common.{◌≡◌, ◌⊎◌, inl, inr, ℕ, List, Some, refl, sym, ◌∙◌, ap, subst}
use Rattle.cue_snap.specs.Pair.{IsSpoiled, NeitherHas, PairReads, PairLeaves}
use Rattle.cue_snap.specs.Found.{disk_in}
use Rattle.cue_snap.specs.Opened.{live_area_read, second_opened}
use Rattle.cue_snap.specs.declared.opening.OpenFault.{OpenFault}
use Rattle.cue_snap.specs.declared.opening.OpenFault.TheVariants as fault
use Rattle.cue_snap.proofs.DisksLemmas.{the_fault, no_fault, only_still, only_same}
use Rattle.cue_snap.proofs.snap.Snap.open.Goals as goal

-- what is chosen of two disks is refused for no fault of a device
no_device : (f : OpenFault) → (f ≡ fault.Damaged) ⊎ (f ≡ fault.Unformed) → f ≡ fault.Disk → ⊥
no_device f (inl is) other = cc
no_device f (inr is) other = cc

pub returns-in-Ok-choose-clause-stood : goal.returns-in-Ok-choose-clause-stood
returns-in-Ok-choose-clause-stood g c = λ honest_a honest_b.
    let held = g.D.Disk.held in
    let area = live_area_read c.in-Ok-choose.opened in
    let chosen = c.in-Ok-choose.ensures.chosen (c.in-Ok.ensures.kept.keeps.honest.1 honest_a)
    (c.in-Ok-find.ensures.kept.keeps.honest.1 honest_b) in
    subst (λ (l : List ℕ). PairReads area l (held c.args.second).bytes) (c.in-Ok.ensures.kept.bytes honest_a)
    (subst (λ (l : List ℕ). PairReads area (held (disk_in c.in-Ok.found)).bytes l) (c.in-Ok-find.ensures.kept.bytes honest_b)
    chosen.stood)

pub returns-in-Ok-choose-clause-reads : goal.returns-in-Ok-choose-clause-reads
returns-in-Ok-choose-clause-reads g c = λ honest_a honest_b.
    let held = g.D.Disk.held in
    let area = live_area_read c.in-Ok-choose.opened in
    let chosen = c.in-Ok-choose.ensures.chosen (c.in-Ok.ensures.kept.keeps.honest.1 honest_a)
    (c.in-Ok-find.ensures.kept.keeps.honest.1 honest_b) in
    subst (λ (disk : _). PairLeaves (held disk) (held (second_opened c.in-Ok-choose.opened)) area)
    (sym c.in-Ok-choose.ensures.first)
    (subst (λ (disk : _). PairLeaves (held (disk_in c.in-Ok.found)) (held disk) area)
    (sym c.in-Ok-choose.ensures.second) chosen.reads)

pub returns-in-Ok-choose-clause-area : goal.returns-in-Ok-choose-clause-area
returns-in-Ok-choose-clause-area g c =
    λ honest_a honest_b. (c.in-Ok-choose.ensures.chosen (c.in-Ok.ensures.kept.keeps.honest.1 honest_a)
    (c.in-Ok-find.ensures.kept.keeps.honest.1 honest_b)).same_area

-- the first disk is not looked at
pub returns-in-Err-clause-opens : goal.returns-in-Err-clause-opens
returns-in-Err-clause-opens g c =
    let refused = c.in-Err.ensures in
    record {
      spoiled = λ _ _ is. absurd (refused.damaged (the_fault _ _ is));
      empty = λ _ _ is. absurd (refused.unformed (the_fault _ _ is));
      failed = λ is. inl (refused.disk (the_fault _ _ is));
      went_through = λ other. (refused.went_through (λ is. other (ap Some is)), refl);
      first_kept = refused.kept;
      second_kept = only_still g.D.Disk c.args.second (g.met.D.Disk.held_now c.args.second);
    }

-- the second one is not
pub returns-in-Err-find-clause-opens : goal.returns-in-Err-find-clause-opens
returns-in-Err-find-clause-opens g c =
    let refused = c.in-Err-find.ensures in
    record {
      spoiled = λ _ _ is. absurd (refused.damaged (the_fault _ _ is));
      empty = λ _ _ is. absurd (refused.unformed (the_fault _ _ is));
      failed = λ is. inr (refused.disk (the_fault _ _ is));
      went_through = λ other. (
        ap g.D.Disk.failures c.into_disk.ensures ∙ c.in-Ok.ensures.went_through,
        refused.went_through (λ is. other (ap Some is)),
      );
      first_kept = only_same g.D.Disk _ _ _ c.into_disk.ensures c.in-Ok.ensures.kept;
      second_kept = refused.kept;
    }

-- neither of the two is chosen
pub returns-in-Err-choose-clause-opens : goal.returns-in-Err-choose-clause-opens
returns-in-Err-choose-clause-opens g c =
    let d = g.D.Disk in
    let refused = c.in-Err-choose.ensures in
    let one = c.in-Ok.ensures.kept in
    let other = c.in-Ok-find.ensures.kept in
    record {
      spoiled = λ first second is.
          subst (λ (l : List ℕ). IsSpoiled l (d.held c.args.second).bytes) (one.bytes first)
          (subst (λ (l : List ℕ). IsSpoiled (d.held (disk_in c.in-Ok.found)).bytes l) (other.bytes second)
          (refused.damaged (one.keeps.honest.1 first) (other.keeps.honest.1 second)
          (c.open_fault.ensures.damaged (the_fault _ _ is))));
      empty = λ first second is.
          subst (λ (l : List ℕ). NeitherHas l (d.held c.args.second).bytes) (one.bytes first)
          (subst (λ (l : List ℕ). NeitherHas (d.held (disk_in c.in-Ok.found)).bytes l) (other.bytes second)
          (refused.unformed (one.keeps.honest.1 first) (other.keeps.honest.1 second)
          (c.open_fault.ensures.unformed (the_fault _ _ is))));
      failed = λ is. absurd (no_device _ c.open_fault.ensures.no_other (the_fault _ _ is));
      went_through = λ _. (
        ap d.failures refused.first ∙ c.in-Ok.ensures.went_through,
        ap d.failures refused.second ∙ c.in-Ok-find.ensures.went_through,
      );
      first_kept = only_same d _ _ _ refused.first one;
      second_kept = only_same d _ _ _ refused.second other;
    }

pub returns-in-Ok-choose-clause-opens : goal.returns-in-Ok-choose-clause-opens
returns-in-Ok-choose-clause-opens g c =
    let d = g.D.Disk in
    let chosen = c.in-Ok-choose.ensures in
    record {
      spoiled = λ _ _ is. no_fault _ is;
      empty = λ _ _ is. no_fault _ is;
      failed = λ is. no_fault _ is;
      went_through = λ _. (
        ap d.failures chosen.first ∙ c.in-Ok.ensures.went_through,
        ap d.failures chosen.second ∙ c.in-Ok-find.ensures.went_through,
      );
      first_kept = only_same d _ _ _ chosen.first c.in-Ok.ensures.kept;
      second_kept = only_same d _ _ _ chosen.second c.in-Ok-find.ensures.kept;
    }
