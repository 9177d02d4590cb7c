-- What a call did to its disks, said of the next layer.
use Rattle.std.proofs.Common.{◌≡◌, Option, Some, None, refl, sym, ◌∙◌, ap, subst, arith}
use Rattle.cue_disk.specs.declared.disk.Disk.{Ghosts}
use Rattle.cue_disk.specs.Disk.{IsImage}
use Rattle.cue_disk.proofs.MomentLemmas.{started}
use Rattle.cue_log.specs.Area.{Area}
use Rattle.cue_snap.specs.Disks.{Keeps, OnlySyncs, Forms, Opens}
use Rattle.cue_snap.specs.Pair.{PairLeaves, AfterBarrier, IsUnformedOr}

-- the fault that is answered
pub the_fault : {E : Type 0} (f g : E) → Some f ≡ Some g → f ≡ g
the_fault f g is = cc

-- no fault is one
pub no_fault : {E : Type 0} {P : Type 0} (f : E) → None ≡ Some f → P
no_fault f is = cc

module _ {D : Type 0} (disk : Ghosts D) where
  pub keeps_still : (a : D) → Keeps disk a a
  keeps_still a = record { honest = (λ h. h, λ h. h); failures = omega arith }

  pub keeps_then : (a mid new : D) → Keeps disk a mid → Keeps disk mid new → Keeps disk a new
  keeps_then a mid new first second = record {
    honest = (λ h. first.honest.0 (second.honest.0 h), λ h. second.honest.1 (first.honest.1 h));
    failures = omega (arith, first.failures, second.failures);
  }

  -- no call was made
  pub only_still : (a : D) → (disk.is_honest a → disk.held_at a (disk.moment a) ≡ disk.held a) → OnlySyncs disk a a
  only_still a now = record {
    keeps = keeps_still a;
    bytes = λ _. refl;
    moments = λ honest. started disk.moment disk.held_at a (disk.held a) (IsImage (disk.held a)) (now honest)
        (λ image left. left);
  }

  -- the disk comes back by another name
  pub only_same : (a b new : D) → new ≡ b → OnlySyncs disk a b → OnlySyncs disk a new
  only_same a b new same syncs = subst (λ (d : D). OnlySyncs disk a d) (sym same) syncs

  -- the same answer in the next layer, of the same disks
  module _ {E F : Type 0} (a b new_a new_b : D) where
    pub formed_next : (full broke : E) (full_then broke_then : F) (area area_then : Area) → area ≡ area_then
        → Forms disk full broke area a b new_a new_b None
        → Forms disk full_then broke_then area_then a b new_a new_b None
    formed_next full broke full_then broke_then area area_then same forms = record {
      formed = subst (λ (it : Area). disk.is_honest a → disk.is_honest b
          → PairLeaves (disk.held new_a) (disk.held new_b) it) same forms.formed;
      empty = forms.empty;
      not_empty = λ _ _ is. no_fault _ is;
      unwritten = λ is. no_fault _ is;
      failed = λ is. no_fault _ is;
      moments = subst (λ (it : Area). disk.is_honest a → disk.is_honest b
          → AfterBarrier disk.moment disk.held_at a b new_a new_b (IsUnformedOr it (disk.held a) (disk.held b))) same
          forms.moments;
      first_kept = forms.first_kept;
      second_kept = forms.second_kept;
    }

    pub unformed_next : (full broke f : E) (full_then broke_then g : F) (area area_then : Area) → area ≡ area_then
        → (g ≡ full_then → f ≡ full) → (g ≡ broke_then → f ≡ broke)
        → Forms disk full broke area a b new_a new_b (Some f)
        → Forms disk full_then broke_then area_then a b new_a new_b (Some g)
    unformed_next full broke f full_then broke_then g area area_then same as_full as_broke forms = record {
      formed = λ _ _. tt;
      empty = λ _ _. tt;
      not_empty = λ first second is. forms.not_empty first second (ap Some (as_full (the_fault _ _ is)));
      unwritten = λ is. forms.unwritten (ap Some (as_full (the_fault _ _ is)));
      failed = λ is. forms.failed (ap Some (as_broke (the_fault _ _ is)));
      moments = subst (λ (it : Area). disk.is_honest a → disk.is_honest b
          → AfterBarrier disk.moment disk.held_at a b new_a new_b (IsUnformedOr it (disk.held a) (disk.held b))) same
          forms.moments;
      first_kept = forms.first_kept;
      second_kept = forms.second_kept;
    }

    pub unopened_next : (damaged unformed broke f : E) (damaged_then unformed_then broke_then g : F)
        → (g ≡ damaged_then → f ≡ damaged) → (g ≡ unformed_then → f ≡ unformed) → (g ≡ broke_then → f ≡ broke)
        → (f ≡ broke → g ≡ broke_then)
        → Opens disk damaged unformed broke a b new_a new_b (Some f)
        → Opens disk damaged_then unformed_then broke_then a b new_a new_b (Some g)
    unopened_next damaged unformed broke f damaged_then unformed_then broke_then g as_damaged as_unformed as_broke
        from_broke opens = record {
          spoiled = λ first second is. opens.spoiled first second (ap Some (as_damaged (the_fault _ _ is)));
          empty = λ first second is. opens.empty first second (ap Some (as_unformed (the_fault _ _ is)));
          failed = λ is. opens.failed (ap Some (as_broke (the_fault _ _ is)));
          went_through = λ other. opens.went_through (λ is. other (ap Some (from_broke (the_fault _ _ is))));
          first_kept = opens.first_kept;
          second_kept = opens.second_kept;
        }

    -- the pair was opened, and whatever is answered then is none of these three
    pub opened_next : (damaged unformed broke : E) (damaged_then unformed_then broke_then : F) (refused : Option F)
        (last_a last_b : D) → last_a ≡ new_a → last_b ≡ new_b
        → (refused ≡ Some damaged_then → ⊥) → (refused ≡ Some unformed_then → ⊥) → (refused ≡ Some broke_then → ⊥)
        → Opens disk damaged unformed broke a b new_a new_b None
        → Opens disk damaged_then unformed_then broke_then a b last_a last_b refused
    opened_next damaged unformed broke damaged_then unformed_then broke_then refused last_a last_b same_a same_b
        not_damaged not_unformed not_broke opens = record {
          spoiled = λ _ _ is. absurd (not_damaged is);
          empty = λ _ _ is. absurd (not_unformed is);
          failed = λ is. absurd (not_broke is);
          went_through = λ _.
              let went = opens.went_through (λ is. no_fault _ is) in
              (ap disk.failures same_a ∙ went.0, ap disk.failures same_b ∙ went.1);
          first_kept = only_same a new_a last_a same_a opens.first_kept;
          second_kept = only_same b new_b last_b same_b opens.second_kept;
        }
