-- What a crash leaves of two disks around a barrier on both.
use Rattle.std.proofs.Common.{◌≡◌, inl, inr, ℕ, List, ◌∙◌, sym, ap, subst, arith}
use Rattle.cue_disk.specs.Disk.{Contents, IsImage, IsStable, LeavesAtEachMoment}
use Rattle.cue_disk.proofs.CrashLemmas.{image_stable}
use Rattle.cue_log.specs.Area.{Area, IsAbsent}
use Rattle.cue_log.specs.Log.{IsNoneOr, IsOldOrAbsent, LeavesAbsent}
use Rattle.cue_snap.specs.Pair.{AfterBarrier, IsUnformedOr, IsOldOrNew}

-- A stable disk without an area leaves none.
pub stays_absent : (old new : Contents) → IsStable new → new.bytes ≡ old.bytes → IsAbsent old.bytes → LeavesAbsent new
stays_absent old new stable same absent image left =
    subst (λ (l : List ℕ). IsAbsent l) (sym (image_stable new image stable left ∙ same)) absent

-- what a crash leaves of a disk without an area while it is closed
pub old_absent : (held : Contents) → LeavesAbsent held → (image : List ℕ) → IsOldOrAbsent held image → IsAbsent image
old_absent held absent image (inl left) = absent image left
old_absent held absent image (inr is) = is

-- what is left of a closed disk while it is formed again
pub none_or_new : (held : Contents) (area : Area) (image : List ℕ) → IsNoneOr area image → IsOldOrNew held area image
none_or_new held area image (inl absent) = inl (inr absent)
none_or_new held area image (inr is) = inr is

module _ {D : Type 0} (moment : D → ℕ) (held : D → Contents) (held_at : D → ℕ → Contents) where
  -- Both disks leave only what they might have left at entry.
  pub entry_pairs : (a b new_a new_b : D) (P : List ℕ → List ℕ → Type 0)
      → LeavesAtEachMoment moment held_at a new_a (IsImage (held a))
      → LeavesAtEachMoment moment held_at b new_b (IsImage (held b))
      → ((x y : List ℕ) → IsImage (held a) x → IsImage (held b) y → P x y)
      → AfterBarrier moment held_at a b new_a new_b P
  entry_pairs a b new_a new_b P first second here = record {
    at_a = moment a;
    at_b = moment b;
    from_a = omega arith;
    from_b = omega arith;
    to_a = first.later;
    to_b = second.later;
    same_a = first.same;
    same_b = second.same;
    before_a = λ k from to x left.
        let is_now : k ≡ moment a = omega arith in
        subst (λ (c : Contents). IsImage c x) (first.same k to ∙ ap (held_at a) is_now) left;
    before_b = λ k from to y left.
        let is_now : k ≡ moment b = omega arith in
        subst (λ (c : Contents). IsImage c y) (second.same k to ∙ ap (held_at b) is_now) left;
    each = λ i j from_i to_i from_j to_j x y left_x left_y. here x y (first.each i from_i to_i x left_x)
        (second.each j from_j to_j y left_y);
  }

  -- The barrier, and then calls on the first disk alone, beside whatever is left of the second one.
  pub barrier_runs : (a b mid_a new_a new_b : D) (P : List ℕ → List ℕ → Type 0) → held_at a (moment a) ≡ held a
      → held_at b (moment b) ≡ held b → held_at new_b (moment new_b) ≡ held new_b
      → IsImage (held new_b) (held new_b).bytes → LeavesAtEachMoment moment held_at a mid_a (IsImage (held a))
      → LeavesAtEachMoment moment held_at b new_b (IsImage (held b))
      → ((y : List ℕ) → IsImage (held new_b) y → LeavesAtEachMoment moment held_at mid_a new_a (λ x. P x y))
      → AfterBarrier moment held_at a b new_a new_b P
  barrier_runs a b mid_a new_a new_b P now_a now_b now_new image_b first second rest =
      let run : LeavesAtEachMoment moment held_at mid_a new_a (λ x. P x (held new_b).bytes) =
      rest (held new_b).bytes image_b in
      record {
        at_a = moment mid_a;
        at_b = moment new_b;
        from_a = first.later;
        from_b = second.later;
        to_a = run.later;
        to_b = omega arith;
        same_a = λ k le. run.same k (omega (arith, le, first.later)) ∙ first.same k le;
        same_b = second.same;
        before_a = λ k from to x left. subst (λ (c : Contents). IsImage c x) (sym now_a)
            (first.each k from to x (subst (λ (c : Contents). IsImage c x) (run.same k to) left));
        before_b = λ k from to y left. subst (λ (c : Contents). IsImage c y) (sym now_b) (second.each k from to y left);
        each = λ i j from_i to_i from_j to_j x y left_x left_y.
            let is_now : j ≡ moment new_b = omega arith in
            (rest y (subst (λ (c : Contents). IsImage c y) (ap (held_at new_b) is_now ∙ now_new) left_y)).each i from_i
            to_i x left_x;
      }

  -- what has P has Q
  pub after_weaker : (a b new_a new_b : D) (P Q : List ℕ → List ℕ → Type 0) → ((x y : List ℕ) → P x y → Q x y)
      → AfterBarrier moment held_at a b new_a new_b P → AfterBarrier moment held_at a b new_a new_b Q
  after_weaker a b new_a new_b P Q from after = record {
    at_a = after.at_a;
    at_b = after.at_b;
    from_a = after.from_a;
    from_b = after.from_b;
    to_a = after.to_a;
    to_b = after.to_b;
    same_a = after.same_a;
    same_b = after.same_b;
    before_a = after.before_a;
    before_b = after.before_b;
    each = λ i j from_i to_i from_j to_j x y left_x left_y. from x y
        (after.each i j from_i to_i from_j to_j x y left_x left_y);
  }

  -- the disks in the other order
  pub after_swapped : (a b new_a new_b : D) (P : List ℕ → List ℕ → Type 0)
      → AfterBarrier moment held_at a b new_a new_b P → AfterBarrier moment held_at b a new_b new_a (λ y x. P x y)
  after_swapped a b new_a new_b P after = record {
    at_a = after.at_b;
    at_b = after.at_a;
    from_a = after.from_b;
    from_b = after.from_a;
    to_a = after.to_b;
    to_b = after.to_a;
    same_a = after.same_b;
    same_b = after.same_a;
    before_a = after.before_b;
    before_b = after.before_a;
    each = λ i j from_i to_i from_j to_j y x left_y left_x. after.each j i from_j to_j from_i to_i x y left_x left_y;
  }

-- what is left of the first disk while its area is formed, beside the second without one
pub formed_pair : (area : Area) (then_a then_b : Contents) (x y : List ℕ) → IsNoneOr area x → IsAbsent y
    → IsUnformedOr area then_a then_b x y
formed_pair area then_a then_b x y (inl absent) none = inr (inl (absent, none))
formed_pair area then_a then_b x y (inr is) none = inr (inr (inl (is, inl none)))
