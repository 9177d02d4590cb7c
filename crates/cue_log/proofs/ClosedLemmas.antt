-- What a crash leaves while a head gate is closed.
use Rattle.std.proofs.Common.{◌≡◌, ◌≢◌, inl, inr, ℕ, ◌<◌, List, [], ◌∷◌, length, get_or, take, sym, ◌∙◌, ap, subst}
use Rattle.std.proofs.Common.{arith}
use Rattle.std.proofs.lemmas.Bool.{cases_eq, cases_lt}
use Rattle.cue_disk.specs.Disk.{Contents, IsImage, IsStable, Writes, Elapses, LeavesAtEachMoment}
use Rattle.cue_disk.proofs.CrashLemmas.{image_stable, torn_elsewhere}
use Rattle.cue_disk.proofs.MomentLemmas.{started, goes_on}
use Rattle.cue_log.specs.Log.{IsOldOrAbsent, IsClosed, LeavesAbsent}
use Rattle.cue_log.proofs.FilledLemmas.{not_open}

-- A crash within the write over an open head gate leaves what it might have left before, or no area. The gate is as it
-- was, or it is not open.
pub gate_torn : (old new : Contents) → get_or old.bytes 0 0 ≡ 1 → 0 < length old.bytes → Writes 0 1 old new
    → (image : List ℕ) → IsImage new image → IsOldOrAbsent old image
gate_torn old new was_open some writes image left = elim (cases_eq (get_or image 0 0) 1) [
  | inl open_ ↦ inl (record {
    no_shorter = omega (arith, left.no_shorter, writes.synced);
    no_longer = omega (arith, left.no_longer, writes.torn.no_longer, some);
    untouched = λ i within clean. elim (cases_lt i 1) [
      | inl first ↦ let at_zero : 0 ≡ i = omega arith in ap (λ (k : ℕ). get_or image k 0) (sym at_zero) ∙ open_
          ∙ sym was_open ∙ ap (λ (k : ℕ). get_or old.bytes k 0) at_zero
      | inr past ↦ left.untouched i (omega (arith, within, writes.synced)) (writes.elsewhere i (inr past) ∙ clean)
          ∙ torn_elsewhere 0 1 old.bytes new.bytes writes.torn i (inr past)
    ];
  })
  | inr closed ↦ inr (not_open image closed)
]

-- Whatever a crash leaves of a stable disk whose head gate is not open is no area.
pub stable_absent : (held : Contents) → IsStable held → get_or held.bytes 0 0 ≢ 1 → LeavesAbsent held
stable_absent held stable closed image left =
    not_open image (λ opened. closed (sym (ap (λ (l : List ℕ). get_or l 0 0) (image_stable held image stable left))
    ∙ opened))

-- A stable disk with a head gate that is not open is closed.
pub stable_closed : (held : Contents) → IsStable held → 0 < length held.bytes → get_or held.bytes 0 0 ≢ 1
    → IsClosed held
stable_closed held stable some shut =
    let within : 0 < held.synced = omega (arith, some, stable.length) in
    inr (within, stable.none_touched 0 within, shut)

-- a first byte that was read
pub first_read : (bytes buf : List ℕ) → buf ≡ take 1 bytes → get_or buf 0 0 ≡ get_or bytes 0 0
first_read [] buf is = ap (λ (l : List ℕ). get_or l 0 0) is
first_read (byte ∷ bytes) buf is = ap (λ (l : List ℕ). get_or l 0 0) is

-- A sync, the length and the gate: what a crash leaves at any moment of them.
module _ {D : Type 0} (moment : D → ℕ) (held : D → Contents) (held_at : D → ℕ → Contents) (d0 d1 : D)
    (now : held_at d0 (moment d0) ≡ held d0) (fewer : (image : List ℕ) → IsImage (held d1) image
    → IsImage (held d0) image) (time1 : Elapses (moment d0) (moment d1) (held_at d0) (held_at d1) (held d1)) where
  pub sync_leaves : LeavesAtEachMoment moment held_at d0 d1 (IsImage (held d0))
  sync_leaves = goes_on moment held_at d0 d0 d1 (IsImage (held d0)) (held d1)
      (started moment held_at d0 (held d0) (IsImage (held d0)) now (λ image left. left)) time1 fewer

  module _ (d2 : D) (same2 : held d2 ≡ held d1) (time2 : Elapses (moment d1) (moment d2) (held_at d1) (held_at d2)
      (held d2)) where
    pub length_leaves : LeavesAtEachMoment moment held_at d0 d2 (IsImage (held d0))
    length_leaves = goes_on moment held_at d0 d1 d2 (IsImage (held d0)) (held d2) sync_leaves time2
        (λ image left. fewer image (subst (λ (c : Contents). IsImage c image) same2 left))

    pub read_leaves : (d3 : D) → held d3 ≡ held d2 → Elapses (moment d2) (moment d3) (held_at d2) (held_at d3) (held d3)
        → LeavesAtEachMoment moment held_at d0 d3 (IsImage (held d0))
    read_leaves d3 same3 time3 = goes_on moment held_at d0 d2 d3 (IsImage (held d0)) (held d3) length_leaves time3
        (λ image left. fewer image (subst (λ (c : Contents). IsImage c image) (same3 ∙ same2) left))

-- The length, the gate and a sync: what a crash leaves at any moment of them.
module _ {D : Type 0} (moment : D → ℕ) (held : D → Contents) (held_at : D → ℕ → Contents) (d0 d1 : D)
    (now : held_at d0 (moment d0) ≡ held d0) (same1 : held d1 ≡ held d0)
    (time1 : Elapses (moment d0) (moment d1) (held_at d0) (held_at d1) (held d1)) where
  pub asked_leaves : LeavesAtEachMoment moment held_at d0 d1 (IsOldOrAbsent (held d0))
  asked_leaves = goes_on moment held_at d0 d0 d1 (IsOldOrAbsent (held d0)) (held d1)
      (started moment held_at d0 (held d0) (IsOldOrAbsent (held d0)) now (λ image left. inl left)) time1
      (λ image left. inl (subst (λ (c : Contents). IsImage c image) same1 left))

  module _ (d2 : D) (same2 : held d2 ≡ held d1) (time2 : Elapses (moment d1) (moment d2) (held_at d1) (held_at d2)
      (held d2)) where
    pub seen_leaves : LeavesAtEachMoment moment held_at d0 d2 (IsOldOrAbsent (held d0))
    seen_leaves = goes_on moment held_at d0 d1 d2 (IsOldOrAbsent (held d0)) (held d2) asked_leaves time2
        (λ image left. inl (subst (λ (c : Contents). IsImage c image) (same2 ∙ same1) left))

    pub shut_leaves : (d3 : D) → ((image : List ℕ) → IsImage (held d3) image → IsImage (held d2) image)
        → Elapses (moment d2) (moment d3) (held_at d2) (held_at d3) (held d3)
        → LeavesAtEachMoment moment held_at d0 d3 (IsOldOrAbsent (held d0))
    shut_leaves d3 fewer time3 = goes_on moment held_at d0 d2 d3 (IsOldOrAbsent (held d0)) (held d3) seen_leaves time3
        (λ image left. inl (subst (λ (c : Contents). IsImage c image) (same2 ∙ same1) (fewer image left)))

-- The length, the gate, and the write over it: what a crash leaves at any moment of them.
module _ {D : Type 0} (moment : D → ℕ) (held : D → Contents) (held_at : D → ℕ → Contents) (d0 d1 d2 d3 : D)
    (now : held_at d0 (moment d0) ≡ held d0) (same1 : held d1 ≡ held d0)
    (time1 : Elapses (moment d0) (moment d1) (held_at d0) (held_at d1) (held d1)) (same2 : held d2 ≡ held d1)
    (time2 : Elapses (moment d1) (moment d2) (held_at d1) (held_at d2) (held d2))
    (was_open : get_or (held d0).bytes 0 0 ≡ 1) (some : 0 < length (held d0).bytes)
    (writes : Writes 0 1 (held d2) (held d3)) (time3 : Elapses (moment d2) (moment d3) (held_at d2) (held_at d3)
    (held d3)) where
  abbrev P : List ℕ → Type 0
  P = IsOldOrAbsent (held d0)

  gate_image : (image : List ℕ) → IsImage (held d3) image → P image
  gate_image = gate_torn (held d0) (held d3) was_open some
      (subst (λ (c : Contents). Writes 0 1 c (held d3)) (same2 ∙ same1) writes)

  pub gate_leaves : LeavesAtEachMoment moment held_at d0 d3 P
  gate_leaves =
      goes_on moment held_at d0 d2 d3 P (held d3)
      (goes_on moment held_at d0 d1 d2 P (held d2)
      (goes_on moment held_at d0 d0 d1 P (held d1)
      (started moment held_at d0 (held d0) P now (λ image left. inl left))
      time1 (λ image left. inl (subst (λ (c : Contents). IsImage c image) same1 left)))
      time2 (λ image left. inl (subst (λ (c : Contents). IsImage c image) (same2 ∙ same1) left)))
      time3 gate_image

  pub last_leaves : (d4 : D) → ((image : List ℕ) → IsImage (held d4) image → IsImage (held d3) image)
      → Elapses (moment d3) (moment d4) (held_at d3) (held_at d4) (held d4) → LeavesAtEachMoment moment held_at d0 d4 P
  last_leaves d4 fewer time4 = goes_on moment held_at d0 d3 d4 P (held d4) gate_leaves time4
      (λ image left. gate_image image (fewer image left))
