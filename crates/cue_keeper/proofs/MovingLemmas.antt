-- Calls on one of two disks, seen as calls on the pair.
use Rattle.std.proofs.Common.{◌≡◌, ℕ, Bool, true, false, not, if◌then◌else◌, List, sym, ◌∙◌, ap, subst, refl, arith}
use Rattle.cue_disk.specs.declared.disk.Disk.{Ghosts}
use Rattle.cue_disk.specs.Disk.{Contents, IsImage, LeavesAtEachMoment}
use Rattle.cue_disk.proofs.MomentLemmas.{and_then}
use Rattle.cue_snap.specs.declared.snap.Snap.{Snap}
use Rattle.cue_snap.specs.Disks.{Keeps}
use Rattle.cue_snap.specs.Observed.{first_of, second_of, live_of, spare_of, is_first_live}
use Rattle.cue_snap.specs.Pair.{AfterBarrier}
use Rattle.cue_snap.proofs.DisksLemmas.{keeps_still, keeps_then}
use Rattle.cue_keeper.specs.Pairs.{LeavesPairsAtEachMoment}

-- Calls write one disk, `old`, beside the other one at rest: a crash at any moment leaves only pairs that have P.
pub record Writes {D : Type 0} (disk : Ghosts D) (P : List ℕ → List ℕ → Type 0) (rest old new : D) : Type 0 where
  pub keeps : Keeps disk old new
  pub leaves : disk.is_honest rest → disk.is_honest old → (x : List ℕ) → IsImage (disk.held rest) x
      → LeavesAtEachMoment disk.moment disk.held_at old new (P x)

-- The same of calls on both.
pub record Moves {D : Type 0} (disk : Ghosts D) (P : List ℕ → List ℕ → Type 0) (a b new_a new_b : D) : Type 0 where
  pub keeps_a : Keeps disk a new_a
  pub keeps_b : Keeps disk b new_b
  pub leaves : disk.is_honest a → disk.is_honest b
      → LeavesPairsAtEachMoment disk.moment disk.held_at a b new_a new_b P

module _ {D : Type 0} (disk : Ghosts D) (P : List ℕ → List ℕ → Type 0) where
  -- one run after another, beside the same disk at rest
  pub writes_then : {rest old mid new : D} → Writes disk P rest old mid → Writes disk P rest mid new
      → Writes disk P rest old new
  writes_then {rest} {old} {mid} {new} first second = record {
    keeps = keeps_then disk old mid new first.keeps second.keeps;
    leaves = λ rests honest x left. and_then disk.moment disk.held_at old mid new (P x)
        (first.leaves rests honest x left) (second.leaves rests (first.keeps.honest.1 honest) x left);
  }

  -- a disk at rest, and one that is written
  pub moves_of : ((x : D) → disk.is_honest x → disk.held_at x (disk.moment x) ≡ disk.held x)
      → ((x : D) → disk.is_honest x → IsImage (disk.held x) (disk.held x).bytes)
      → {rest old new : D} → Writes disk P rest old new → Moves disk P rest old rest new
  moves_of now image {rest} {old} {new} writes = record {
    keeps_a = keeps_still disk rest;
    keeps_b = writes.keeps;
    leaves = λ rests honest.
        let run : LeavesAtEachMoment disk.moment disk.held_at old new (P (disk.held rest).bytes) =
        writes.leaves rests honest (disk.held rest).bytes (image rest rests) in
        record {
          later_a = omega arith;
          later_b = run.later;
          same_a = λ k le. refl;
          same_b = run.same;
          each = λ i j from_i to_i from_j to_j x y left_x left_y.
              let is_now : i ≡ disk.moment rest = omega arith in
              (writes.leaves rests honest x (subst (λ (c : Contents). IsImage c x) (ap (disk.held_at rest) is_now
              ∙ now rest rests) left_x)).each j from_j to_j y left_y;
        };
  }

  -- no call was made
  pub at_rest : (a b : D) → ((x : D) → disk.is_honest x → disk.held_at x (disk.moment x) ≡ disk.held x)
      → (disk.is_honest a → disk.is_honest b → (x y : List ℕ) → IsImage (disk.held a) x → IsImage (disk.held b) y
      → P x y)
      → Moves disk P a b a b
  at_rest a b now here = record {
    keeps_a = keeps_still disk a;
    keeps_b = keeps_still disk b;
    leaves = λ honest_a honest_b. record {
      later_a = omega arith;
      later_b = omega arith;
      same_a = λ k le. refl;
      same_b = λ k le. refl;
      each = λ i j from_i to_i from_j to_j x y left_x left_y.
          let is_a : i ≡ disk.moment a = omega arith in
          let is_b : j ≡ disk.moment b = omega arith in
          here honest_a honest_b x y
          (subst (λ (c : Contents). IsImage c x) (ap (disk.held_at a) is_a ∙ now a honest_a) left_x)
          (subst (λ (c : Contents). IsImage c y) (ap (disk.held_at b) is_b ∙ now b honest_b) left_y);
    };
  }

  -- the disks in the other order, where P does not tell them apart
  pub moves_swapped : ((x y : List ℕ) → P x y → P y x) → (a b new_a new_b : D) → Moves disk P a b new_a new_b
      → Moves disk P b a new_b new_a
  moves_swapped turn a b new_a new_b moves = record {
    keeps_a = moves.keeps_b;
    keeps_b = moves.keeps_a;
    leaves = λ honest_b honest_a.
        let run = moves.leaves honest_a honest_b in
        record {
          later_a = run.later_b;
          later_b = run.later_a;
          same_a = run.same_b;
          same_b = run.same_a;
          each = λ i j from_i to_i from_j to_j x y left_x left_y. turn y x
              (run.each j i from_j to_j from_i to_i y x left_y left_x);
        };
  }

-- ---- the disks of a pair in their order

module _ {D : Type 0} {disk : Ghosts D} (pair : Snap D disk) where
  pub of_sides : disk.is_honest (first_of pair) → disk.is_honest (second_of pair)
      → disk.is_honest (live_of pair) × disk.is_honest (spare_of pair)
  of_sides first second = by (is_first_live pair) first second
    where
      by : (was : Bool) → disk.is_honest (if was then live_of pair else spare_of pair)
          → disk.is_honest (if was then spare_of pair else live_of pair)
          → disk.is_honest (live_of pair) × disk.is_honest (spare_of pair)
      by true one other = (one, other)
      by false one other = (other, one)

  pub in_sides : (Q : D → D → Type 0) → ((a b : D) → Q a b → Q b a) → Q (live_of pair) (spare_of pair)
      → Q (first_of pair) (second_of pair)
  in_sides Q turn fact = by (is_first_live pair)
    where
      by : (was : Bool) → Q (if was then live_of pair else spare_of pair) (if was then spare_of pair else live_of pair)
      by true = fact
      by false = turn (live_of pair) (spare_of pair) fact

-- a fact of the two and of those that they become, where it does not tell them apart
module _ {D : Type 0} {disk : Ghosts D} (old new : Snap D disk) (Q : D → D → D → D → Type 0)
    (turn : (a b new_a new_b : D) → Q a b new_a new_b → Q b a new_b new_a) where
  pub in_order : is_first_live new ≡ is_first_live old → Q (live_of old) (spare_of old) (live_of new) (spare_of new)
      → Q (first_of old) (second_of old) (first_of new) (second_of new)
  in_order same fact = by (is_first_live old) (is_first_live new) same
    where
      by : (was is : Bool) → is ≡ was → Q (if was then live_of old else spare_of old) (if was then spare_of old
          else live_of old) (if is then live_of new else spare_of new) (if is then spare_of new else live_of new)
      by true is same = rw same fact
      by false is same = rw same (turn (live_of old) (spare_of old) (live_of new) (spare_of new) fact)

  -- where the other one of the two is live afterwards
  pub in_turned_order : is_first_live new ≡ not (is_first_live old)
      → Q (live_of old) (spare_of old) (spare_of new) (live_of new)
      → Q (first_of old) (second_of old) (first_of new) (second_of new)
  in_turned_order same fact = by (is_first_live old) (is_first_live new) same
    where
      by : (was is : Bool) → is ≡ not was → Q (if was then live_of old else spare_of old) (if was then spare_of old
          else live_of old) (if is then live_of new else spare_of new) (if is then spare_of new else live_of new)
      by true is same = rw same fact
      by false is same = rw same (turn (live_of old) (spare_of old) (spare_of new) (live_of new) fact)

module _ {D : Type 0} (moment : D → ℕ) (held : D → Contents) (held_at : D → ℕ → Contents) (failures : D
    → ℕ) (is_honest : D → Type 0) where
  -- what has P has Q
  pub leaves_weaker : (a b new_a new_b : D) (P Q : List ℕ → List ℕ → Type 0) → ((x y : List ℕ) → P x y → Q x y)
      → LeavesPairsAtEachMoment moment held_at a b new_a new_b P
      → LeavesPairsAtEachMoment moment held_at a b new_a new_b Q
  leaves_weaker a b new_a new_b P Q from leaves = record {
    later_a = leaves.later_a;
    later_b = leaves.later_b;
    same_a = leaves.same_a;
    same_b = leaves.same_b;
    each = λ i j from_i to_i from_j to_j x y left_x left_y. from x y
        (leaves.each i j from_i to_i from_j to_j x y left_x left_y);
  }

  -- both disks are opened, and then calls are made on the pair
  pub opened_then : (a b mid_a mid_b new_a new_b : D) (P : List ℕ → List ℕ → Type 0) → held_at a (moment a) ≡ held a
      → held_at b (moment b) ≡ held b → LeavesAtEachMoment moment held_at a mid_a (IsImage (held a))
      → LeavesAtEachMoment moment held_at b mid_b (IsImage (held b))
      → LeavesPairsAtEachMoment moment held_at mid_a mid_b new_a new_b P → AfterBarrier moment held_at a b new_a new_b P
  opened_then a b mid_a mid_b new_a new_b P now_a now_b first second pairs = record {
    at_a = moment mid_a;
    at_b = moment mid_b;
    from_a = first.later;
    from_b = second.later;
    to_a = pairs.later_a;
    to_b = pairs.later_b;
    same_a = λ k le. pairs.same_a k (omega (arith, le, first.later)) ∙ first.same k le;
    same_b = λ k le. pairs.same_b k (omega (arith, le, second.later)) ∙ second.same k le;
    before_a = λ k from to x left. subst (λ (c : Contents). IsImage c x) (sym now_a)
        (first.each k from to x (subst (λ (c : Contents). IsImage c x) (pairs.same_a k to) left));
    before_b = λ k from to y left. subst (λ (c : Contents). IsImage c y) (sym now_b)
        (second.each k from to y (subst (λ (c : Contents). IsImage c y) (pairs.same_b k to) left));
    each = pairs.each;
  }
