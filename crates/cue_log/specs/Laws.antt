-- What the definitions of an area give, over any bytes.
use Rattle.std.specs.Prelude.{◌≡◌, ◌⊎◌, ◌<◌, ℕ, List, Some, slice_index}
use Rattle.cue_log.specs.Area.{Area, IsArea, IsAbsent}
use Rattle.cue_log.specs.Reading.{read_area}
use Rattle.cue_log.specs.Log.{IsDamaged}
use Rattle.cue_log.specs.declared.area.TheConstants.{MAX_AREA, MAX_PAYLOAD, HEAD_LEN, FRAME_LEN, OPEN, CLOSED}

-- each cell is a byte
abbrev pub AreBytes : List ℕ → Type 0
AreBytes bytes = (i : ℕ) → slice_index bytes i < 256

-- The same bytes read as one area at most.
abbrev pub OneArea : Type 0
OneArea = (a b : Area) (bytes : List ℕ) → IsArea a bytes → IsArea b bytes → a ≡ b

-- The reader finds the area if there is one.
abbrev pub ReaderFindsEach : Type 0
ReaderFindsEach = (area : Area) (bytes : List ℕ) → IsArea area bytes → read_area bytes ≡ Some area

-- What the reader finds is there.
abbrev pub ReaderFindsOnly : Type 0
ReaderFindsOnly =
    (bytes : List ℕ) (area : Area) → AreBytes bytes → read_area bytes ≡ Some area → IsArea area bytes

-- Any bytes are absent, or an area, or damaged.
abbrev pub AnyBytesAnswer : Type 0
AnyBytesAnswer = (bytes : List ℕ) → AreBytes bytes → IsAbsent bytes ⊎ ((area : Area) × IsArea area bytes)
    ⊎ IsDamaged bytes

-- An area is not absent.
abbrev pub NoAreaIsAbsent : Type 0
NoAreaIsAbsent = (area : Area) (bytes : List ℕ) → IsArea area bytes → IsAbsent bytes → ⊥

-- The limits as numbers: the bytes of the longest area and of the longest payload, those in front of a snapshot and of
-- a payload, and the bytes of an open and of a closed gate.
abbrev pub LimitsOfAnArea : Type 0
LimitsOfAnArea = (MAX_AREA ≡ 16777216) × (MAX_PAYLOAD ≡ 32768) × (HEAD_LEN ≡ 13) × (FRAME_LEN ≡ 5)
    × (OPEN ≡ 1) × (CLOSED ≡ 0)
