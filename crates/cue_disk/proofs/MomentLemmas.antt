-- What a crash leaves at any moment of a run of calls.
use Rattle.std.proofs.Common.{◌≡◌, ℕ, ◌<◌, ◌≤◌, List, ⊎_elim, refl, ◌∙◌, ap, subst, arith}
use Rattle.std.proofs.lemmas.Bool.{cases_lt}
use Rattle.cue_disk.specs.Disk.{Contents, IsImage, Elapses, LeavesAtEachMoment}

module _ {D : Type 0} (moment : D → ℕ) (held_at : D → ℕ → Contents) where
  -- before the first call
  pub started : (old : D) (held : Contents) (P : List ℕ → Type 0) → held_at old (moment old) ≡ held
      → ((image : List ℕ) → IsImage held image → P image) → LeavesAtEachMoment moment held_at old old P
  started old held P now here = record {
    later = omega arith;
    same = λ k le. refl;
    each = λ k from to image left.
        let is_now : k ≡ moment old = omega arith in
        here image (subst (λ (c : Contents). IsImage c image) (ap (held_at old) is_now ∙ now) left);
  }

  -- no call was made
  pub still : (old : D) → LeavesAtEachMoment moment held_at old old (IsImage (held_at old (moment old)))
  still old = started old (held_at old (moment old)) (IsImage (held_at old (moment old))) refl (λ image left. left)

  -- one call more, after which a crash leaves what has P
  pub goes_on : (old mid new : D) (P : List ℕ → Type 0) (present : Contents)
      → LeavesAtEachMoment moment held_at old mid P
      → Elapses (moment mid) (moment new) (held_at mid) (held_at new) present
      → ((image : List ℕ) → IsImage present image → P image) → LeavesAtEachMoment moment held_at old new P
  goes_on old mid new P present so_far time here = record {
    later = omega (arith, so_far.later, time.later);
    same = λ k le. time.same k (omega (arith, le, so_far.later)) ∙ so_far.same k le;
    each = λ k from to image left.
        ⊎_elim
        (λ (after : moment mid < k). here image (subst (λ (c : Contents). IsImage c image) (time.rest k after to) left))
        (λ (before : k ≤ moment mid). so_far.each k from before image
        (subst (λ (c : Contents). IsImage c image) (time.same k before) left))
        (cases_lt (moment mid) k);
  }

  -- one run after another
  pub and_then : (old mid new : D) (P : List ℕ → Type 0) → LeavesAtEachMoment moment held_at old mid P
      → LeavesAtEachMoment moment held_at mid new P → LeavesAtEachMoment moment held_at old new P
  and_then old mid new P first second = record {
    later = omega (arith, first.later, second.later);
    same = λ k le. second.same k (omega (arith, le, first.later)) ∙ first.same k le;
    each = λ k from to image left.
        ⊎_elim
        (λ (after : moment mid < k). second.each k (omega arith) to image left)
        (λ (before : k ≤ moment mid). first.each k from before image
        (subst (λ (c : Contents). IsImage c image) (second.same k before) left))
        (cases_lt (moment mid) k);
  }

  -- what has P has Q
  pub weaker : (old new : D) (P Q : List ℕ → Type 0) → ((image : List ℕ) → P image → Q image)
      → LeavesAtEachMoment moment held_at old new P → LeavesAtEachMoment moment held_at old new Q
  weaker old new P Q from leaves = record {
    later = leaves.later;
    same = leaves.same;
    each = λ k low high image left. from image (leaves.each k low high image left);
  }
