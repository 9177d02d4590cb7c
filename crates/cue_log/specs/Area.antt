-- What the bytes of an area stand for.
use Rattle.std.specs.Prelude.{◌≡◌, ◌≢◌, ◌<◌, ◌+◌, ◌*◌, ◌^◌, ℕ, nat_le, Bool, true}
use Rattle.std.specs.Prelude.{◌&&◌, List, [], ◌∷◌, ◌++◌, length}
use Rattle.std.specs.Prelude.{take, sum_by, slice_index}
use Rattle.std.specs.Int.{to_be_bytes, w32, w64}
use Rattle.cue_log.specs.declared.area.TheConstants.{MAX_AREA, FRAME_LEN, MAX_PAYLOAD}

-- what an area has: a generation, a snapshot, and the payloads of the records after it
pub record Area : Type 0 where
  pub generation : ℕ
  pub snapshot : List ℕ
  pub payloads : List (List ℕ)

-- a number in four bytes, the highest byte first
unfoldable pub four_bytes : ℕ → List ℕ
four_bytes n = to_be_bytes w32 n

-- a number in eight bytes, the highest byte first
unfoldable pub eight_bytes : ℕ → List ℕ
eight_bytes n = to_be_bytes w64 n

-- a length, and so many bytes
abbrev pub frame_of : List ℕ → List ℕ
frame_of bytes = four_bytes (length bytes) ++ bytes

-- records, each after an open gate
abbrev pub records_text : List (List ℕ) → List ℕ
records_text [] = []
records_text (payload ∷ payloads) = 1 ∷ frame_of payload ++ records_text payloads

-- what stands after the head gate, up to the records
abbrev pub body_text : ℕ → List ℕ → List ℕ
body_text generation snapshot = eight_bytes generation ++ frame_of snapshot

-- an area up to the gate that is not open
abbrev pub area_text : Area → List ℕ
area_text area = 1 ∷ body_text area.generation area.snapshot ++ records_text area.payloads

-- each is short enough for a record
abbrev pub are_records : List (List ℕ) → Bool
are_records [] = true
are_records (payload ∷ payloads) = nat_le (length payload) MAX_PAYLOAD && are_records payloads

-- The bytes read as this area: its encoding comes first and then a gate that is not open, within the largest area. What
-- follows that gate is not read.
pub record IsArea (area : Area) (bytes : List ℕ) : Type 0 where
  pub text : take (length (area_text area)) bytes ≡ area_text area
  pub ends : length (area_text area) < length bytes
  pub closed : slice_index bytes (length (area_text area)) ≢ 1
  pub fits : length (area_text area) < MAX_AREA
  pub generation : area.generation < 2 ^ 64
  pub records : are_records area.payloads ≡ true

-- No area stands here: there are fewer than two bytes, whatever they are, or the head gate is not open.
abbrev pub IsAbsent : List ℕ → Type 0
IsAbsent [] = Unit {0}
IsAbsent (gate ∷ []) = Unit {0}
IsAbsent (gate ∷ byte ∷ bytes) = gate ≢ 1

-- what a formed area has: its encoding, and after it a gate that is not open
abbrev pub formed_text : ℕ → List ℕ → List ℕ
formed_text generation snapshot = 1 ∷ (body_text generation snapshot ++ 0 ∷ [])

-- what a record adds from the last gate on: that gate open, the payload, and a gate that is not open
abbrev pub record_text : List ℕ → List ℕ
record_text payload = 1 ∷ (frame_of payload ++ 0 ∷ [])

-- the same of records that come together
abbrev pub group_text : List (List ℕ) → List ℕ
group_text payloads = records_text payloads ++ 0 ∷ []

-- how many bytes records take of an area: a frame each, beside their payloads
abbrev pub room_of : List (List ℕ) → ℕ
room_of payloads = FRAME_LEN * length payloads + sum_by length payloads

-- records more
abbrev pub with_payloads : Area → List (List ℕ) → Area
with_payloads area payloads = record {
  generation = area.generation;
  snapshot = area.snapshot;
  payloads = area.payloads ++ payloads;
}

-- no record yet
abbrev pub fresh : ℕ → List ℕ → Area
fresh generation snapshot = record { generation = generation; snapshot = snapshot; payloads = [] }
