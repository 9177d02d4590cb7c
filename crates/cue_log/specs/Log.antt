-- What a log knows of its disk.
use Rattle.std.specs.Prelude.{◌≡◌, ◌≢◌, ◌⊎◌, ◌<◌, ◌≤◌, ℕ, false, List, [], ◌∷◌}
use Rattle.std.specs.Prelude.{◌++◌, length, take, drop, slice_index}
use Rattle.std.specs.Prelude.{IsSome, ◌==◌, if◌then◌else◌}
use Rattle.cue_disk.specs.Disk.{Contents, IsImage, IsStable, LeavesAtEachMoment}
use Rattle.cue_log.specs.declared.area.TheConstants.{MAX_AREA}
use Rattle.cue_log.specs.Area.{Area, IsArea, IsAbsent, area_text, body_text}
use Rattle.cue_log.specs.Reading.{area_in, area_at}

-- The disk holds an area whose last gate stands at `end`, and a crash leaves it so.
pub record IsSettled (held : Contents) (end : ℕ) : Type 0 where
  pub is : IsArea (area_in held.bytes) held.bytes
  pub stable : IsStable held
  pub same_end : end ≡ length (area_text (area_in held.bytes))

-- the numbers that a log keeps beside it
pub record IsNumbered (held : Contents) (generation count : ℕ) : Type 0 where
  pub same_generation : generation ≡ (area_in held.bytes).generation
  pub same_count : count ≡ length (area_in held.bytes).payloads

-- whatever a crash leaves reads as this area
abbrev pub ReadsAs : Contents → Area → Type 0
ReadsAs held area = (image : List ℕ) → IsImage held image → IsArea area image

-- the bytes read as one area or as the other
abbrev pub IsEither : Area → Area → List ℕ → Type 0
IsEither before after image = IsArea before image ⊎ IsArea after image

-- No crash opens the head gate: nothing stands there, or a gate that is not open and is not to be changed by a crash.
abbrev pub IsShut : Contents → Type 0
IsShut held = (0 < held.synced) × (held.touched 0 ≡ false) × (slice_index held.bytes 0 ≢ 1)

-- An area may be formed there: the disk is empty, or its head gate is shut.
abbrev pub IsClosed : Contents → Type 0
IsClosed held = (held.bytes ≡ []) ⊎ IsShut held

-- whatever a crash leaves has no open head gate
abbrev pub LeavesAbsent : Contents → Type 0
LeavesAbsent held = (image : List ℕ) → IsImage held image → IsAbsent image

-- the bytes are absent or read as this area
abbrev pub IsNoneOr : Area → List ℕ → Type 0
IsNoneOr area image = IsAbsent image ⊎ IsArea area image

-- an image of then, or absent
abbrev pub IsOldOrAbsent : Contents → List ℕ → Type 0
IsOldOrAbsent held image = IsImage held image ⊎ IsAbsent image

-- a closed head gate where nothing stood
abbrev pub prepared_bytes : List ℕ → List ℕ
prepared_bytes [] = 0 ∷ []
prepared_bytes (gate ∷ bytes) = gate ∷ bytes

-- After a gate that is not open stand this generation and snapshot and a gate that is not open, and a crash leaves it
-- so.
pub record IsFilled (held : Contents) (generation : ℕ) (snapshot : List ℕ) : Type 0 where
  pub stable : IsStable held
  pub shut : slice_index held.bytes 0 ≢ 1
  pub rest : List ℕ
  pub text : drop 1 held.bytes ≡ body_text generation snapshot ++ 0 ∷ rest

-- no area stands there, though the head gate is open
abbrev pub IsDamaged : List ℕ → Type 0
IsDamaged bytes = (IsAbsent bytes → ⊥) × ((area : Area) → IsArea area bytes → ⊥)

-- the same bytes with a head gate that is not open
abbrev pub closed_bytes : List ℕ → List ℕ
closed_bytes [] = []
closed_bytes (gate ∷ bytes) = (if gate == 1 then 0 else gate) ∷ bytes

-- Calls that only read: the disk holds what it held, and a crash at any moment of them leaves what it might have left
-- before.
pub record OnlyReads {D : Type 0} (moment : D → ℕ) (held : D → Contents) (held_at : D → ℕ → Contents)
    (old new : D) : Type 0 where
  pub same : held new ≡ held old
  pub leaves : LeavesAtEachMoment moment held_at old new (IsImage (held old))

-- a front of the bytes, long enough that an area is there in whole, after an open head gate
pub record IsFront (text bytes : List ℕ) : Type 0 where
  pub front : text ≡ take (length text) bytes
  pub enough : IsSome (area_at text) ⊎ (take MAX_AREA bytes ≡ text)
  pub long : 2 ≤ length bytes
  pub opened : slice_index bytes 0 ≡ 1
