-- What two areas stand for, from what a crash leaves of each.
use Rattle.std.proofs.Common.{◌≡◌, ◌⊎◌, inl, inr, ℕ, ◌+◌, ◌<◌, List, [], ◌∷◌, sym, subst, arith}
use Rattle.std.proofs.lemmas.Bool.{cases_eq}
use Rattle.cue_disk.specs.Disk.{Contents, IsImage}
use Rattle.cue_log.specs.Area.{Area, IsArea, IsAbsent, fresh}
use Rattle.cue_log.specs.Reading.{area_in}
use Rattle.cue_log.specs.Log.{ReadsAs, IsEither, LeavesAbsent}
use Rattle.cue_log.proofs.CompleteLemmas.{area_in_is}
use Rattle.cue_snap.specs.Pair.{IsOlder, PairReads, PairIsEither, PairLeaves, LeavesOlder, IsOldOrNew}

-- Bytes are absent or they are not.
pub absent_or_not : (bytes : List ℕ) → IsAbsent bytes ⊎ (IsAbsent bytes → ⊥)
absent_or_not [] = inl tt
absent_or_not (gate ∷ []) = inl tt
absent_or_not (gate ∷ byte ∷ bytes) = elim (cases_eq gate 1) [
  | inl opened ↦ inr (λ shut. shut opened)
  | inr shut ↦ inl shut
]

-- what a spare disk may be left with is older
pub older_of : (held : Contents) (generation : ℕ) → LeavesOlder held generation → (image : List ℕ) → IsImage held image
    → IsOlder generation image
older_of held generation leaves image left = elim (absent_or_not image) [
  | inl absent ↦ inl absent
  | inr there ↦ inr (area_in image, (leaves image left there).0, (leaves image left there).1)
]

-- where nothing is left all of it is older
pub absent_leaves_older : (held : Contents) (generation : ℕ) → LeavesAbsent held → LeavesOlder held generation
absent_leaves_older held generation absent image left there = absurd (there (absent image left))

-- an area that stays is older than a higher generation
pub area_leaves_older : (held : Contents) (area : Area) (generation : ℕ) → ReadsAs held area
    → area.generation < generation → LeavesOlder held generation
area_leaves_older held area generation reads lower image left there =
    let same : area ≡ area_in image = sym (area_in_is area image (reads image left)) in (
      subst (λ (a : Area). IsArea a image) same (reads image left),
      subst (λ (a : Area). a.generation < generation) same
          lower,
    )

-- the order of the two does not count
pub swapped : (area : Area) (x y : List ℕ) → PairReads area x y → PairReads area y x
swapped area x y (inl reads) = inr reads
swapped area x y (inr reads) = inl reads

-- the same of what crashes leave
pub leaves_swapped : (one other : Contents) (area : Area) → PairLeaves one other area → PairLeaves other one area
leaves_swapped one other area leaves x y left_x left_y = swapped area y x (leaves y x left_y left_x)

-- A live area and an older one beside it.
pub pair_leaves : (live spare : Contents) (area : Area) (generation : ℕ) → ReadsAs live area
    → generation ≡ area.generation → LeavesOlder spare generation → PairLeaves live spare area
pair_leaves live spare area generation reads same older x y left_x left_y =
    inl (reads x left_x, subst (λ (n : ℕ). IsOlder n y) same (older_of spare generation older y left_y))

-- one of two areas of one generation, beside an older one
pub either_reads : (before after : Area) (generation : ℕ) (x y : List ℕ) → generation ≡ before.generation
    → generation ≡ after.generation → IsOlder generation y → IsEither before after x → PairIsEither before after x y
either_reads before after generation x y same_before same_after older (inl is) =
    inl (inl (is, subst (λ (n : ℕ). IsOlder n y) same_before older))
either_reads before after generation x y same_before same_after older (inr is) =
    inr (inl (is, subst (λ (n : ℕ). IsOlder n y) same_after older))

-- The spare disk while it is formed again, beside the live area.
pub turn_reads : (held : Contents) (before : Area) (generation : ℕ) (snapshot x y : List ℕ)
    → generation ≡ before.generation → IsArea before x → LeavesOlder held generation
    → IsOldOrNew held (fresh (generation + 1) snapshot) y → PairIsEither before (fresh (generation + 1) snapshot) x y
turn_reads held before generation snapshot x y same is older (inl (inl left)) =
    inl (inl (is, subst (λ (n : ℕ). IsOlder n y) same (older_of held generation older y left)))
turn_reads held before generation snapshot x y same is older (inl (inr absent)) = inl (inl (is, inl absent))
turn_reads held before generation snapshot x y same is older (inr new) =
    let lower : before.generation < generation + 1 = omega (arith, same) in
    inr (inr (new, inr (before, is, lower)))
