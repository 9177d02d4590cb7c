-- The four device calls that append records, one after another: what a crash leaves at any moment of them.
use Rattle.std.specs.Prelude.{IsErr, OnOk, ◌↔◌}
use Rattle.std.proofs.Common.{◌≡◌, Result, inl, refl, ℕ, ◌+◌, ◌<◌, ◌≤◌, true, List, [], ◌∷◌, length, sym, ◌∙◌, ap}
use Rattle.std.proofs.Common.{subst, arith, length-append}
use Rattle.cue_disk.specs.Disk.{Contents, IsImage, IsStable, Writes, overwritten_bytes, LeavesAtEachMoment, Elapses}
use Rattle.cue_disk.specs.Disk.{Torn}
use Rattle.cue_disk.specs.Disk.{MoreFailures}
use Rattle.cue_disk.specs.declared.disk.Disk.{Ghosts}
use Rattle.cue_disk.proofs.CrashLemmas.{image_torn}
use Rattle.cue_disk.proofs.MomentLemmas.{started, goes_on}
use Rattle.cue_log.specs.declared.area.TheConstants.{MAX_AREA}
use Rattle.cue_log.specs.Area.{Area, IsArea, area_text, records_text, group_text, room_of, are_records, with_payloads}
use Rattle.cue_log.specs.Reading.{area_in, payloads_in}
use Rattle.cue_log.specs.Record.{AreFramed}
use Rattle.cue_log.specs.Log.{IsSettled, IsEither}
use Rattle.cue_log.specs.Appending.{Writes as AppendsOn}
use Rattle.cue_log.proofs.TextLemmas.{area_text-append, length-records}
use Rattle.cue_log.proofs.CompleteLemmas.{area_in_is}
use Rattle.cue_log.proofs.SettledLemmas.{settled_reads, at_ok, if_ok, at_err, counts_at_err}
use Rattle.cue_log.proofs.GroupLemmas.{behind_first, first_open, length-behind_first}
use Rattle.cue_log.proofs.OverwrittenLemmas.{overwritten-front}
use Rattle.cue_log.proofs.CommittedLemmas.{behind_gate, body_torn, gate_torn, gate_written, length-behind_gate}

-- what is so of an honest disk after them
pub record Done {T E D : Type 0} (disk : Ghosts D) (payloads : List (List ℕ)) (result : Result T E) (end : ℕ)
    (old new : D) : Type 0 where
  pub any_moment : LeavesAtEachMoment disk.moment disk.held_at old new
      (IsEither (area_in (disk.held old).bytes) (with_payloads (area_in (disk.held old).bytes) payloads))
  pub area : OnOk result (area_in (disk.held new).bytes ≡ with_payloads (area_in (disk.held old).bytes) payloads)
  pub settled : OnOk result (IsSettled (disk.held new) (end + room_of payloads))
  pub bytes : OnOk result ((disk.held new).bytes ≡ overwritten_bytes (disk.held old).bytes end (group_text payloads))

module _ {D : Type 0} (disk : Ghosts D) (text : List ℕ) (end : ℕ) (framed : AreFramed text) (some : 1 < length text)
    (limit : end + length text ≤ MAX_AREA) (d0 : D) (settled : IsSettled (disk.held d0) end)
    (now : disk.held_at d0 (disk.moment d0) ≡ disk.held d0) where
  abbrev moment : D → ℕ
  moment = disk.moment

  abbrev held : D → Contents
  held = disk.held

  abbrev held_at : D → ℕ → Contents
  held_at = disk.held_at

  abbrev payloads : List (List ℕ)
  payloads = payloads_in text

  abbrev stored : List ℕ
  stored = behind_first text

  frame : 1 ∷ stored ≡ group_text payloads
  frame = first_open text framed some ∙ framed.text

  short : are_records payloads ≡ true
  short = framed.short

  room : end + 1 + length stored ≤ MAX_AREA
  room = omega (arith, limit, length-behind_first text framed some)

  abbrev pub area : Area
  area = area_in (held d0).bytes

  abbrev pub Either : List ℕ → Type 0
  Either = IsEither area (with_payloads area payloads)

  module _ (d1 : D) (writes : Writes (end + 1) (length stored) (held d0) (held d1))
      (time : Elapses (moment d0) (moment d1) (held_at d0) (held_at d1) (held d1)) where
    body_image : (image : List ℕ) → IsImage (held d1) image → Either image
    body_image image left =
        inl (body_torn area payloads (held d0).bytes stored end settled.is frame short settled.same_end room image
        (image_torn (end + 1) (length stored) (held d0) (held d1) image
        (omega (arith, settled.is.ends, settled.same_end)) settled.stable writes left))

    -- the records after the closed gate
    pub body_leaves : LeavesAtEachMoment moment held_at d0 d1 Either
    body_leaves =
        goes_on moment held_at d0 d0 d1 Either (held d1)
        (started moment held_at d0 (held d0) Either now
        (λ image left. inl (settled_reads (held d0) end settled image left))) time body_image

    module _ (d2 : D) (fewer : (image : List ℕ) → IsImage (held d2) image → IsImage (held d1) image)
        (time2 : Elapses (moment d1) (moment d2) (held_at d1) (held_at d2) (held d2)) where
      -- and synced
      pub sync_leaves : LeavesAtEachMoment moment held_at d0 d2 Either
      sync_leaves = goes_on moment held_at d0 d1 d2 Either (held d2) body_leaves time2
          (λ image left. body_image image (fewer image left))

      module _ (d3 : D) (written : (held d1).bytes ≡ overwritten_bytes (held d0).bytes (end + 1) stored)
          (same : (held d2).bytes ≡ (held d1).bytes) (stable : IsStable (held d2))
          (writes3 : Writes end 1 (held d2) (held d3))
          (time3 : Elapses (moment d2) (moment d3) (held_at d2) (held_at d3) (held d3)) where
        gate_image : (image : List ℕ) → IsImage (held d3) image → Either image
        gate_image image left =
            let bytes : (held d2).bytes ≡ behind_gate area payloads (held d0).bytes stored end settled.is frame short
            settled.same_end room = same ∙ written in
            gate_torn area payloads (held d0).bytes stored end settled.is frame short settled.same_end room image
            (subst (λ (old : List ℕ). Torn end 1 old image) bytes
            (image_torn end 1 (held d2) (held d3) image
            (omega (
              arith,
              ap length bytes,
              length-behind_gate area payloads (held d0).bytes stored end settled.is
                  frame short settled.same_end room,
            )) stable writes3 left))

        -- the gate open
        pub gate_leaves : LeavesAtEachMoment moment held_at d0 d3 Either
        gate_leaves = goes_on moment held_at d0 d2 d3 Either (held d3) sync_leaves time3 gate_image

        module _ (d4 : D) (fewer4 : (image : List ℕ) → IsImage (held d4) image → IsImage (held d3) image)
            (time4 : Elapses (moment d3) (moment d4) (held_at d3) (held_at d4) (held d4)) where
          -- and synced
          pub last_leaves : LeavesAtEachMoment moment held_at d0 d4 Either
          last_leaves = goes_on moment held_at d0 d3 d4 Either (held d4) gate_leaves time4
              (λ image left. gate_image image (fewer4 image left))

          -- All of them succeeded, as far as the last one did.
          module _ (written3 : (held d3).bytes ≡ overwritten_bytes (held d2).bytes end (1 ∷ []))
              (same4 : (held d4).bytes ≡ (held d3).bytes) where
            appended : IsArea (with_payloads area payloads) (held d4).bytes
            appended =
                let bytes : (held d4).bytes ≡ overwritten_bytes
                (behind_gate area payloads (held d0).bytes stored end settled.is frame short settled.same_end room)
                end (1 ∷ []) =
                same4 ∙ written3 ∙ ap (λ (l : List ℕ). overwritten_bytes l end (1 ∷ [])) (same ∙ written) in
                subst (λ (l : List ℕ). IsArea (with_payloads area payloads) l) (sym bytes)
                (gate_written area payloads (held d0).bytes stored end settled.is frame short settled.same_end room)

            area_after : area_in (held d4).bytes ≡ with_payloads area payloads
            area_after = area_in_is (with_payloads area payloads) (held d4).bytes appended

            settled_after : IsStable (held d4) → IsSettled (held d4) (end + room_of payloads)
            settled_after stable4 = record {
              is = subst (λ (a : Area). IsArea a (held d4).bytes) (sym area_after) appended;
              stable = stable4;
              same_end = omega (
                arith,
                settled.same_end,
                ap (λ (a : Area). length (area_text a)) area_after,
                ap length
                    (area_text-append area payloads),
                length-append (area_text area) (records_text payloads),
                length-records payloads,
              );
            }

            bytes_after : (held d4).bytes ≡ overwritten_bytes (held d0).bytes end (group_text payloads)
            bytes_after =
                same4 ∙ written3 ∙ ap (λ (l : List ℕ). overwritten_bytes l end (1 ∷ [])) (same ∙ written)
                ∙ overwritten-front (held d0).bytes (1 ∷ []) stored end (end + 1)
                (omega (arith, settled.is.ends, settled.same_end)) refl
                ∙ ap (λ (l : List ℕ). overwritten_bytes (held d0).bytes end l) frame

            pub done : {T E : Type 0} (result : Result T E) → OnOk result (IsStable (held d4))
                → Done disk payloads result end d0 d4
            done result stable4 = record {
              any_moment = last_leaves;
              area = at_ok result area_after;
              settled = if_ok result settled_after stable4;
              bytes = at_ok result bytes_after;
            }

-- A call of it failed.
pub failed : {T E D : Type 0} (disk : Ghosts D) (added : List (List ℕ)) (result : Result T E) (end : ℕ) (old new : D)
    → IsErr result
    → (disk.is_honest old → LeavesAtEachMoment disk.moment disk.held_at old new
    (IsEither (area_in (disk.held old).bytes) (with_payloads (area_in (disk.held old).bytes) added)))
    → MoreFailures (disk.failures old) (disk.failures new) × (disk.failures old ≤ disk.failures new)
    → (disk.is_honest new ↔ disk.is_honest old)
    → AppendsOn disk added result end old new
failed disk added result end old new is leaves counted honest = record {
  any_moment = leaves;
  area = λ _. at_err _ result is;
  settled = λ _. at_err _ result is;
  bytes = λ _. at_err _ result is;
  count = counts_at_err result (disk.failures old) (disk.failures new) is counted;
  honest = honest;
}
