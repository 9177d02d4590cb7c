-- What the contracts say of the disks permits each incident.
use Rattle.std.proofs.Common.{◌≡◌, inl, inr, ℕ, List, length, refl, sym, subst, arith}
use Rattle.std.proofs.lemmas.Bool.{lt-leb}
use Rattle.cue_disk.specs.Disk.{Contents, IsImage, IsStable}
use Rattle.cue_disk.specs.Effect.{settled_contents}
use Rattle.cue_disk.proofs.CrashLemmas.{image_stable}
use Rattle.cue_snap.specs.Pair.{AfterBarrier, IsUnformedOr}
use Rattle.cue_keeper.specs.Stands.{first_area}
use Rattle.cue_engine.specs.Recovery.{IsLeftOrStands}
use Rattle.cue_engine.specs.Incidents.{Incident, recovered, stopped_in_recovery, refused, Store, LeavesOnly, RecoversAs}
use Rattle.cue_engine.specs.Incidents.{PermitsAtRest, PermitsUnformed, Permits}
use Rattle.cue_engine.specs.Permitted.{IsWithin, IsStop, IsOnDisks, PowerLossIsWithin, StopIsPermitted}
use Rattle.cue_engine.specs.Permitted.{StopInCommitIsPermitted, StopInRecoveryIsPermitted, StopInFormIsPermitted}
use Rattle.cue_engine.specs.Permitted.{RecoveryIsPermitted, RefusalIsPermitted}

settled_stable : (bytes : List ℕ) → IsStable (settled_contents bytes)
settled_stable bytes = record { length = refl; none_touched = λ i within. lt-leb (length bytes) i within }

pub power_loss : PowerLossIsWithin
power_loss then_held bytes left = λ image after. let P : List ℕ → Type 0 = λ xs. IsImage then_held xs in
    subst P (sym (image_stable (settled_contents bytes) image (settled_stable bytes) after)) left

pub stop : {D : Type 0} (held : D → Contents) → StopIsPermitted held
stop held s owed n a b one other stands in_one in_other =
    λ x y left_x left_y. stands x y (in_one x left_x) (in_other y left_y)

pub stop_in_commit : {D : Type 0} (moment : D → ℕ) (held_at : D → ℕ → Contents) → StopInCommitIsPermitted moment held_at
stop_in_commit moment held_at s owed inputs n a b new_a new_b i j one other leaves at_i at_j in_one in_other =
    λ x y left_x left_y. leaves.each i j at_i.0 at_i.1 at_j.0 at_j.1 x y (in_one x left_x) (in_other y left_y)

-- ---- after a barrier

-- up to the barrier a stop leaves what one at entry might have left, from it on what the call says
at_stop : {D : Type 0} (moment : D → ℕ) (held_at : D → ℕ → Contents) (a b new_a new_b : D) (P : List ℕ → List ℕ
    → Type 0) (then_one then_other : Contents)
    → held_at a (moment a) ≡ then_one → held_at b (moment b) ≡ then_other
    → ((x y : List ℕ) → IsImage then_one x → IsImage then_other y → P x y)
    → (barrier : AfterBarrier moment held_at a b new_a new_b P) (i j : ℕ)
    → IsStop moment held_at a b new_a new_b P barrier i j
    → (x y : List ℕ) → IsImage (held_at new_a i) x → IsImage (held_at new_b j) y → P x y
at_stop moment held_at a b new_a new_b P then_one then_other now_a now_b entry barrier i j (inl before) x y left_x
    left_y =
    entry x y
    (subst (λ (c : Contents). IsImage c x) now_a (barrier.before_a i before.0.0 before.0.1 x left_x))
    (subst (λ (c : Contents). IsImage c y) now_b (barrier.before_b j before.1.0 before.1.1 y left_y))
at_stop moment held_at a b new_a new_b P then_one then_other now_a now_b entry barrier i j (inr since) x y left_x
    left_y =
    barrier.each i j since.0.0 since.0.1 since.1.0 since.1.1 x y left_x left_y

-- the disks hold this of either store
pub on_disks : (i : Incident) (store : Store) (one other : Contents) → PermitsAtRest one other i
    → PermitsUnformed one other i → IsOnDisks store one other → Permits store i
on_disks i store one other rest first (inl same) = let P : Store → Type 0 = λ u. Permits u i in subst P (sym same) rest
on_disks i store one other rest first (inr same) = let P : Store → Type 0 = λ u. Permits u i in subst P (sym same) first

-- ---- recovery that came to its end

pub recovery : {D : Type 0} (held : D → Contents) (is_honest : D → Type 0)
    → ((disk : D) → is_honest disk → IsImage (held disk) (held disk).bytes) → RecoveryIsPermitted held is_honest
recovery held is_honest reads store a b s honest_a honest_b on closed =
    let closes : RecoversAs (held a) (held b) s =
    record {
      first = (held a).bytes;
      second = (held b).bytes;
      left = (reads a honest_a, reads b honest_b);
      closed =
          closed;
    } in
    on_disks (recovered s) store (held a) (held b) closes closes on

-- ---- stops within a call, and refusals

module _ {D : Type 0} (moment : D → ℕ) (held : D → Contents) (held_at : D → ℕ → Contents) (is_honest : D → Type 0)
    (held_now : (disk : D) → is_honest disk → held_at disk (moment disk) ≡ held disk) where
  pub stop_in_recovery : StopInRecoveryIsPermitted moment held held_at is_honest
  stop_in_recovery store a b new_a new_b i j one other honest_a honest_b on barrier
      stops in_one in_other =
      let leaves : LeavesOnly one other (IsLeftOrStands (held a) (held b)) = λ x y left_x left_y.
      at_stop moment held_at a b new_a new_b (IsLeftOrStands (held a) (held b)) (held a) (held b) (held_now a honest_a)
      (held_now b honest_b) (λ u v left_u left_v. inl (left_u, left_v)) barrier i j stops x y (in_one x left_x)
      (in_other y left_y) in
      on_disks (stopped_in_recovery one other) store (held a) (held b) leaves leaves on

  pub stop_in_form : StopInFormIsPermitted moment held held_at is_honest
  stop_in_form a b new_a new_b i j one other honest_a honest_b barrier stops in_one
      in_other =
      λ x y left_x left_y.
      at_stop moment held_at a b new_a new_b (IsUnformedOr first_area (held a) (held b)) (held a) (held b)
      (held_now a honest_a) (held_now b honest_b) (λ u v left_u left_v. inl (left_u, left_v)) barrier i j stops x y
      (in_one x left_x) (in_other y left_y)

  pub refusal : RefusalIsPermitted moment held held_at is_honest
  refusal store a b new_a new_b one other honest_a honest_b on leaves in_one
      in_other =
      let was : (new_disk : D) (now : Contents) (image : List ℕ) → is_honest new_disk → IsWithin (held new_disk) now
      → IsImage now image → IsImage (held_at new_disk (moment new_disk)) image =
      λ new_disk now image honest within left.
      subst (λ (c : Contents). IsImage c image) (sym (held_now new_disk honest))
      (within image left) in
      let both : (x y : List ℕ) → IsImage one x → IsImage other y → IsImage (held a) x × IsImage (held b) y =
      λ x y left_x left_y. (
        leaves.0.each (moment new_a) leaves.0.later (omega arith) x (was new_a one x honest_a in_one left_x),
        leaves.1.each (moment new_b) leaves.1.later (omega arith) y (was new_b other y honest_b in_other left_y),
      ) in
      on_disks (refused one other) store (held a) (held b) both both on
