-- What a crash leaves while an area is formed.
use Rattle.std.proofs.Common.{◌≡◌, ◌≢◌, inl, inr, ℕ, ◌+◌, ◌<◌, ◌≤◌, ◌^◌, List, [], ◌∷◌, ◌++◌, length, get_or, take}
use Rattle.std.proofs.Common.{drop, refl, sym, ◌∙◌, ap, subst, arith, append_assoc, length-append, length-drop}
use Rattle.std.proofs.lemmas.Bool.{cases_eq}
use Rattle.std.proofs.lemmas.List.{append-nil, length-take, take_at, drop_at}
use Rattle.cue_disk.specs.Disk.{Contents, IsImage, IsStable, Torn, Writes, overwritten_bytes, LeavesAtEachMoment}
use Rattle.cue_disk.specs.Disk.{Elapses}
use Rattle.cue_disk.proofs.CrashLemmas.{image_stable, image_torn, torn_elsewhere}
use Rattle.cue_disk.proofs.MomentLemmas.{started, goes_on}
use Rattle.cue_log.specs.declared.area.TheConstants.{MAX_AREA, HEAD_LEN}
use Rattle.cue_log.specs.Area.{Area, IsArea, IsAbsent, area_text, body_text, fresh, frame_of, eight_bytes, four_bytes}
use Rattle.cue_log.specs.Reading.{area_in}
use Rattle.cue_log.specs.Log.{IsSettled, IsShut, IsFilled, IsNoneOr}
use Rattle.cue_log.proofs.TextLemmas.{split_at, reads, length-framed, length-eight_bytes}
use Rattle.cue_log.proofs.CompleteLemmas.{area_in_is}

-- bytes with no open gate in front are no area
pub not_open : (bytes : List ℕ) → get_or bytes 0 0 ≢ 1 → IsAbsent bytes
not_open [] closed = tt
not_open (gate ∷ []) closed = tt
not_open (gate ∷ byte ∷ bytes) closed = closed

-- Whatever a crash leaves after a gate that is shut is no area.
pub shut_absent : (held : Contents) (image : List ℕ) → IsShut held → IsImage held image → IsAbsent image
shut_absent held image shut left = not_open image (λ opened. shut.2 (sym (left.untouched 0 shut.0 shut.1) ∙ opened))

-- A write after the head gate leaves it shut.
pub shut_stays : (at n : ℕ) (old new : Contents) → 0 < at → Writes at n old new → IsShut old → IsShut new
shut_stays at n old new behind writes shut = (
  omega (arith, shut.0, writes.synced),
  writes.elsewhere 0 (inl behind) ∙ shut.1,
  λ opened. shut.2 (sym (torn_elsewhere at n old.bytes new.bytes writes.torn 0 (inl behind)) ∙ opened),
)

-- so far there is no area, and none after a call that leaves the gate shut
pub shut_leaves : {D : Type 0} (moment : D → ℕ) (held : D → Contents) (held_at : D → ℕ → Contents) (old mid new : D)
    → LeavesAtEachMoment moment held_at old mid IsAbsent → IsShut (held new)
    → Elapses (moment mid) (moment new) (held_at mid) (held_at new) (held new)
    → LeavesAtEachMoment moment held_at old new IsAbsent
shut_leaves moment held held_at old mid new so_far shut time =
    goes_on moment held_at old mid new IsAbsent (held new) so_far time
    (λ image left. shut_absent (held new) image shut left)

-- what stands up to the end of a write
written_front : (old bytes : List ℕ) (at : ℕ) → at ≤ length old
    → take (at + length bytes) (overwritten_bytes old at bytes) ≡ take at old ++ bytes
written_front old bytes at within =
    take_at (take at old ++ bytes) (drop (at + length bytes) old) (at + length bytes)
    (omega (arith, length-append (take at old) bytes, length-take at old))

-- Three writes, one after the other: what stands after the head gate.
pub body_written : (b0 b1 b2 b3 header snapshot : List ℕ) → 0 < length b0 → length header ≡ 12
    → b1 ≡ overwritten_bytes b0 1 header → b2 ≡ overwritten_bytes b1 HEAD_LEN snapshot
    → b3 ≡ overwritten_bytes b2 (HEAD_LEN + length snapshot) (0 ∷ [])
    → drop 1 b3 ≡ (header ++ snapshot) ++ 0 ∷ drop (HEAD_LEN + length snapshot + 1) b2
body_written b0 b1 b2 b3 header snapshot some long is1 is2 is3 =
    let first : take HEAD_LEN b1 ≡ take 1 b0 ++ header =
    let ends : HEAD_LEN ≡ 1 + length header = omega (arith, long) in
    ap (λ (l : List ℕ). take HEAD_LEN l) is1 ∙ ap (λ (n : ℕ). take n (overwritten_bytes b0 1 header)) ends
    ∙ written_front b0 header 1 (omega (arith, some)) in
    let reach1 : HEAD_LEN ≤ length b1 =
    omega (
      arith,
      ap length first,
      length-append (take 1 b0) header,
      length-take 1 b0,
      length-take HEAD_LEN b1,
      some,
      long,
    ) in
    let second : take (HEAD_LEN + length snapshot) b2 ≡ (take 1 b0 ++ header) ++ snapshot =
    ap (λ (l : List ℕ). take (HEAD_LEN + length snapshot) l) is2 ∙ written_front b1 snapshot HEAD_LEN reach1
    ∙ ap (λ (l : List ℕ). l ++ snapshot) first in
    let rest : List ℕ = drop (HEAD_LEN + length snapshot + 1) b2 in
    let whole : b3 ≡ take 1 b0 ++ ((header ++ snapshot) ++ 0 ∷ rest) =
    is3 ∙ ap (λ (l : List ℕ). l ++ (0 ∷ []) ++ rest) second ∙ simp append_assoc in
    ap (λ (l : List ℕ). drop 1 l) whole
    ∙ drop_at (take 1 b0) ((header ++ snapshot) ++ 0 ∷ rest) 1 (omega (arith, length-take 1 b0, some))

-- A body that was written and synced after a gate that is shut.
pub filled_after : (generation : ℕ) (snapshot header : List ℕ) (written synced : Contents) (rest : List ℕ)
    → header ≡ eight_bytes generation ++ four_bytes (length snapshot) → IsShut written
    → drop 1 written.bytes ≡ (header ++ snapshot) ++ 0 ∷ rest → synced.bytes ≡ written.bytes → IsStable synced
    → IsFilled synced generation snapshot
filled_after generation snapshot header written synced rest is shut body same stable = record {
  stable = stable;
  shut = λ opened. shut.2 (sym (ap (λ (l : List ℕ). get_or l 0 0) same) ∙ opened);
  rest = rest;
  text =
      ap (λ (l : List ℕ). drop 1 l) same ∙ body
      ∙ ap (λ (l : List ℕ). (l ++ snapshot) ++ 0 ∷ rest) is
      ∙ ap (λ (l : List ℕ). l ++ 0 ∷ rest) (append_assoc (eight_bytes generation) (four_bytes (length snapshot))
      snapshot);
}

-- A body after a gate: the gate says whether it is an area.
module _ (held : Contents) (generation : ℕ) (snapshot : List ℕ) (filled : IsFilled held generation snapshot)
    (numbered : generation < 2 ^ 64) (room : HEAD_LEN + length snapshot < MAX_AREA) where
  abbrev area : Area
  area = fresh generation snapshot

  abbrev behind : List ℕ
  behind = body_text generation snapshot ++ 0 ∷ filled.rest

  pub some : 0 < length held.bytes
  some = omega (
    arith,
    ap length filled.text,
    length-drop 1 held.bytes,
    length-append (body_text generation snapshot)
        (0 ∷ filled.rest),
  )

  length-area_text : length (area_text area) ≡ HEAD_LEN + length snapshot
  length-area_text =
      omega (
        arith,
        length-append (1 ∷ body_text generation snapshot) [],
        length-append (eight_bytes generation)
            (frame_of snapshot),
        length-framed snapshot,
        length-eight_bytes generation,
      )

  pub opened : (image : List ℕ) → image ≡ 1 ∷ behind → IsArea area image
  opened image is =
      reads area 0 filled.rest image (is
      ∙ ap (λ (l : List ℕ). l ++ 0 ∷ filled.rest) (sym (append-nil (1 ∷ body_text generation snapshot))))
      (λ equal. absurd (cc (equal))) (omega (arith, length-area_text, room)) numbered refl

  pub gate_torn : (image : List ℕ) → Torn 0 1 held.bytes image → IsNoneOr area image
  gate_torn image torn =
      let split : image ≡ get_or image 0 0 ∷ behind =
      split_at image 0 (omega (arith, torn.no_shorter, some))
      ∙ ap (λ (l : List ℕ). get_or image 0 0 ∷ l) (torn.after ∙ filled.text) in
      elim (cases_eq (get_or image 0 0) 1) [
        | inl open_ ↦ inr (opened image (split ∙ ap (λ (n : ℕ). n ∷ behind) open_))
        | inr closed ↦ inl (not_open image closed)
      ]

  pub gate_written : (bytes : List ℕ) → bytes ≡ overwritten_bytes held.bytes 0 (1 ∷ []) → IsArea area bytes
  gate_written bytes is = opened bytes (is ∙ ap (λ (l : List ℕ). 1 ∷ l) filled.text)

  pub settled_area : (after : Contents) → IsArea area after.bytes → IsStable after
      → IsSettled after (HEAD_LEN + length snapshot)
  settled_area after is stable =
      let same : area_in after.bytes ≡ area = area_in_is area after.bytes is in
      record {
        is = subst (λ (a : Area). IsArea a after.bytes) (sym same) is;
        stable = stable;
        same_end = omega (arith, length-area_text, ap (λ (a : Area). length (area_text a)) same);
      }

  -- The gate's write, and then its sync.
  module _ {D : Type 0} (moment : D → ℕ) (all_held : D → Contents) (held_at : D → ℕ → Contents) (d0 : D)
      (now : held_at d0 (moment d0) ≡ held) (d1 : D) (writes : Writes 0 1 held (all_held d1))
      (time : Elapses (moment d0) (moment d1) (held_at d0) (held_at d1) (all_held d1)) where
    gate_image : (image : List ℕ) → IsImage (all_held d1) image → IsNoneOr area image
    gate_image image left = gate_torn image (image_torn 0 1 held (all_held d1) image (omega arith) filled.stable writes
        left)

    pub gate_leaves : LeavesAtEachMoment moment held_at d0 d1 (IsNoneOr area)
    gate_leaves =
        goes_on moment held_at d0 d0 d1 (IsNoneOr area) (all_held d1)
        (started moment held_at d0 held (IsNoneOr area) now
        (λ image left. inl (not_open image
        (λ opened_. filled.shut (sym
        (ap (λ (l : List ℕ). get_or l 0 0) (image_stable held image filled.stable left)) ∙ opened_)))))
        time gate_image

    pub last_leaves : (d2 : D) → ((image : List ℕ) → IsImage (all_held d2) image → IsImage (all_held d1) image)
        → Elapses (moment d1) (moment d2) (held_at d1) (held_at d2) (all_held d2)
        → LeavesAtEachMoment moment held_at d0 d2 (IsNoneOr area)
    last_leaves d2 fewer time2 = goes_on moment held_at d0 d1 d2 (IsNoneOr area) (all_held d2) gate_leaves time2
        (λ image left. gate_image image (fewer image left))
