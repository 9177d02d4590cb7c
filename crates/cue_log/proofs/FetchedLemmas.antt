-- What was read from a disk, one read after another.
use Rattle.std.proofs.Common.{◌≡◌, ◌⊎◌, inl, inr, ℕ, min, ◌+◌, ◌≤◌, Result, Ok, Err, get_or, List, ◌++◌, length, take}
use Rattle.std.proofs.Common.{drop, refl, sym, ◌∙◌, ap, subst, arith, take-append-drop}
use Rattle.std.specs.Prelude.{IfOk, IsSome}
use Rattle.std.proofs.lemmas.List.{take-take, drop-take, take_min}
use Rattle.cue_disk.specs.Disk.{Contents, IsImage, LeavesAtEachMoment, Elapses}
use Rattle.cue_disk.proofs.MomentLemmas.{started, goes_on, and_then, weaker}
use Rattle.cue_log.specs.declared.area.TheConstants.{MAX_AREA}
use Rattle.cue_log.specs.Reading.{area_at}
use Rattle.cue_log.specs.Log.{OnlyReads, IsFront}

-- no call was made
pub reads_none : {D : Type 0} (moment : D → ℕ) (held : D → Contents) (held_at : D → ℕ → Contents) (old : D)
    → held_at old (moment old) ≡ held old → OnlyReads moment held held_at old old
reads_none moment held held_at old now = record {
  same = refl;
  leaves = started moment held_at old (held old) (IsImage (held old)) now (λ image left. left);
}

-- one read
pub reads_once : {D : Type 0} (moment : D → ℕ) (held : D → Contents) (held_at : D → ℕ → Contents) (old new : D)
    → held_at old (moment old) ≡ held old → held new ≡ held old
    → Elapses (moment old) (moment new) (held_at old) (held_at new) (held new) → OnlyReads moment held held_at old new
reads_once moment held held_at old new now same time = record {
  same = same;
  leaves = goes_on moment held_at old old new (IsImage (held old)) (held new)
      (started moment held_at old (held old) (IsImage (held old)) now (λ image left. left)) time
      (λ image left. subst (λ (c : Contents). IsImage c image) same left);
}

-- Reads after reads only read.
pub reads_next : {D : Type 0} (moment : D → ℕ) (held : D → Contents) (held_at : D → ℕ → Contents) (old mid new : D)
    → OnlyReads moment held held_at old mid → OnlyReads moment held held_at mid new
    → OnlyReads moment held held_at old new
reads_next moment held held_at old mid new first second = record {
  same = second.same ∙ first.same;
  leaves = and_then moment held_at old mid new (IsImage (held old)) first.leaves
      (subst (λ (c : Contents). LeavesAtEachMoment moment held_at mid new (IsImage c)) first.same second.leaves);
}

-- the front of a list in two parts
take_both : (n more : ℕ) (bytes : List ℕ) → take (n + more) bytes ≡ take n bytes ++ take more (drop n bytes)
take_both n more bytes =
    sym (take-append-drop n (take (n + more) bytes))
    ∙ (λ i. take-take n (n + more) bytes (omega arith) i ++ drop-take n more bytes i)

-- What is read after a front makes a longer front.
pub front_more : (bytes text next : List ℕ) (more : ℕ) → text ≡ take (length text) bytes
    → next ≡ text ++ take more (drop (length text) bytes) → length next ≡ length text + more
    → next ≡ take (length next) bytes
front_more bytes text next more front is long =
    is ∙ ap (λ (l : List ℕ). l ++ take more (drop (length text) bytes)) front ∙ sym (take_both (length text) more bytes)
    ∙ ap (λ (n : ℕ). take n bytes) (sym long)

-- A sync, and then only reads: a crash leaves what it might have left before.
pub synced_reads : {D : Type 0} (moment : D → ℕ) (held : D → Contents) (held_at : D → ℕ → Contents) (d0 d1 d2 d3 d4 : D)
    → held_at d0 (moment d0) ≡ held d0 → ((image : List ℕ) → IsImage (held d1) image → IsImage (held d0) image)
    → Elapses (moment d0) (moment d1) (held_at d0) (held_at d1) (held d1) → held d2 ≡ held d1
    → Elapses (moment d1) (moment d2) (held_at d1) (held_at d2) (held d2) → held d3 ≡ held d2
    → Elapses (moment d2) (moment d3) (held_at d2) (held_at d3) (held d3) → OnlyReads moment held held_at d3 d4
    → LeavesAtEachMoment moment held_at d0 d4 (IsImage (held d0))
synced_reads moment held held_at d0 d1 d2 d3 d4 now fewer time1 same2 time2 same3 time3 reads4 =
    let P : List ℕ → Type 0 = IsImage (held d0) in
    let second : (image : List ℕ) → IsImage (held d2) image
    → P image = λ image left. fewer image (subst (λ (c : Contents). IsImage c image) same2 left) in
    let third : (image : List ℕ) → IsImage (held d3) image
    → P image = λ image left. second image (subst (λ (c : Contents). IsImage c image) same3 left) in
    and_then moment held_at d0 d3 d4 P
    (goes_on moment held_at d0 d2 d3 P (held d3)
    (goes_on moment held_at d0 d1 d2 P (held d2)
    (goes_on moment held_at d0 d0 d1 P (held d1) (started moment held_at d0 (held d0) P now (λ image left. left)) time1
    fewer)
    time2 second)
    time3 third)
    (weaker moment held_at d3 d4 (IsImage (held d3)) P third reads4.leaves)

-- What was read is a front with the area, where there is one.
pub front_after : {T E : Type 0} (items : T → List ℕ) (result : Result T E) (bytes : List ℕ) (most : ℕ)
    → most ≡ min (length bytes) MAX_AREA → 2 ≤ length bytes → get_or bytes 0 0 ≡ 1
    → IfOk result (λ text. items text ≡ take (length (items text)) bytes)
    → IfOk result (λ text. IsSome (area_at (items text)) ⊎ (length (items text) ≡ most))
    → IfOk result (λ text. IsFront (items text) bytes)
front_after items (Err fault) bytes most is long open_ front enough = tt
front_after items (Ok text) bytes most is long open_ front enough = record {
  front = front;
  enough = elim enough [
    | inl whole ↦ inl whole
    | inr all ↦
        let reach : min MAX_AREA (length bytes) ≡ length (items text) = omega (arith, is, all) in
        inr (sym (take_min MAX_AREA bytes) ∙ ap (λ (n : ℕ). take n bytes) reach ∙ sym front)
  ];
  long = long;
  opened = open_;
}
