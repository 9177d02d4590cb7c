-- What two areas stand for together.
use Rattle.std.specs.Prelude.{◌≡◌, ◌⊎◌, ◌<◌, ◌≤◌, ℕ, List}
use Rattle.cue_disk.specs.Disk.{Contents, IsImage}
use Rattle.cue_log.specs.Area.{Area, IsArea, IsAbsent}
use Rattle.cue_log.specs.Reading.{area_in}
use Rattle.cue_log.specs.Log.{IsDamaged, IsOldOrAbsent}

-- absent, or an area of a lower generation
abbrev pub IsOlder : ℕ → List ℕ → Type 0
IsOlder generation bytes = IsAbsent bytes ⊎ ((area : Area) × IsArea area bytes × (area.generation < generation))

-- The pair reads as this area: it is the one with the higher generation of two, or the only one.
abbrev pub PairReads : Area → List ℕ → List ℕ → Type 0
PairReads area x y = (IsArea area x × IsOlder area.generation y) ⊎ (IsArea area y × IsOlder area.generation x)

-- the pair reads as the one area or as the other
abbrev pub PairIsEither : Area → Area → List ℕ → List ℕ → Type 0
PairIsEither before after x y = PairReads before x y ⊎ PairReads after x y

-- whatever a crash leaves of two disks reads as this area
abbrev pub PairLeaves : Contents → Contents → Area → Type 0
PairLeaves one other area = (x y : List ℕ) → IsImage one x → IsImage other y → PairReads area x y

-- Whatever a crash leaves of a disk is older: it is absent, or an area of a lower generation, which the reader names.
abbrev pub LeavesOlder : Contents → ℕ → Type 0
LeavesOlder held generation = (image : List ℕ) → IsImage held image → (IsAbsent image → ⊥)
    → IsArea (area_in image) image × ((area_in image).generation < generation)

-- a spare disk while it is formed again: an image of then, absent, or this area
abbrev pub IsOldOrNew : Contents → Area → List ℕ → Type 0
IsOldOrNew held area image = IsOldOrAbsent held image ⊎ IsArea area image

-- neither of the two has an area
abbrev pub NeitherHas : List ℕ → List ℕ → Type 0
NeitherHas x y = IsAbsent x × IsAbsent y

-- one of the two has an area, or the remains of one
abbrev pub SomeIsThere : List ℕ → List ℕ → Type 0
SomeIsThere x y = (IsAbsent x → ⊥) ⊎ (IsAbsent y → ⊥)

-- both have an area, and of one generation
abbrev pub OneGeneration : List ℕ → List ℕ → Type 0
OneGeneration x y = IsArea (area_in x) x × IsArea (area_in y) y × ((area_in x).generation ≡ (area_in y).generation)

-- No area of the pair can be taken: one is damaged, or both have one generation.
abbrev pub IsSpoiled : List ℕ → List ℕ → Type 0
IsSpoiled x y = IsDamaged x ⊎ IsDamaged y ⊎ OneGeneration x y

-- While a first area is formed: both are images of then, or neither has an area, or the pair reads as this one.
abbrev pub IsUnformedOr : Area → Contents → Contents → List ℕ → List ℕ → Type 0
IsUnformedOr area then_a then_b x y = (IsImage then_a x × IsImage then_b y) ⊎ NeitherHas x y ⊎ PairReads area x y

-- A call that writes nothing before it has synced both disks. Up to a moment of each, a crash leaves what it might have
-- left at entry; from these moments on each pair has P. What was held up to the entry is as it was.
pub record AfterBarrier {D : Type 0} (moment : D → ℕ) (held_at : D → ℕ → Contents) (a b new_a new_b : D)
    (P : List ℕ → List ℕ → Type 0) : Type 0 where
  pub at_a : ℕ
  pub at_b : ℕ
  pub from_a : moment a ≤ at_a
  pub from_b : moment b ≤ at_b
  pub to_a : at_a ≤ moment new_a
  pub to_b : at_b ≤ moment new_b
  pub same_a : (k : ℕ) → k ≤ moment a → held_at new_a k ≡ held_at a k
  pub same_b : (k : ℕ) → k ≤ moment b → held_at new_b k ≡ held_at b k
  pub before_a : (k : ℕ) → moment a ≤ k → k ≤ at_a → (x : List ℕ) → IsImage (held_at new_a k) x
      → IsImage (held_at a (moment a)) x
  pub before_b : (k : ℕ) → moment b ≤ k → k ≤ at_b → (y : List ℕ) → IsImage (held_at new_b k) y
      → IsImage (held_at b (moment b)) y
  pub each : (i j : ℕ) → at_a ≤ i → i ≤ moment new_a → at_b ≤ j → j ≤ moment new_b
      → (x y : List ℕ) → IsImage (held_at new_a i) x → IsImage (held_at new_b j) y → P x y
