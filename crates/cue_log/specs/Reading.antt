-- Helper: reading an area from the front. It finds each area (`Area.antt`) by the law `reader_finds_each`, and nothing
-- else by the law `reader_finds_only`.
use Rattle.std.specs.Prelude.{◌+◌, ◌-◌, ℕ, zero, suc, nat_lt, ◌||◌, ◌==◌, if◌then◌else◌, List}
use Rattle.std.specs.Prelude.{[], ◌∷◌, ◌++◌, length}
use Rattle.std.specs.Prelude.{take, drop, Option, Some, None, IsSome}
use Rattle.std.specs.Int.{from_be_bytes, w32, w64}
use Rattle.cue_log.specs.declared.area.TheConstants.{MAX_AREA, MAX_PAYLOAD}
use Rattle.std.specs.Option.{option_map}
use Rattle.cue_log.specs.Area.{Area, records_text}

-- the number in the first four bytes
unfoldable pub four_at : List ℕ → ℕ
four_at bytes = from_be_bytes w32 (take 4 bytes)

-- the number in the first eight bytes
unfoldable pub eight_at : List ℕ → ℕ
eight_at bytes = from_be_bytes w64 (take 8 bytes)

-- a length of at most `most` and so many bytes, with what follows them
unfoldable pub frame_at : ℕ → List ℕ → Option (List ℕ × List ℕ)
frame_at most bytes =
    if nat_lt (length bytes) 4 || (nat_lt most (four_at bytes) || nat_lt (length bytes) (4 + four_at bytes)) then None
    else Some (take (four_at bytes) (drop 4 bytes), drop (4 + four_at bytes) bytes)

-- this payload, and then those, if they could be read
abbrev pub in_front : List ℕ → Option (List (List ℕ)) → Option (List (List ℕ))
in_front payload None = None
in_front payload (Some payloads) = Some (payload ∷ payloads)

-- the payloads of a record that was read, and of those that are read after it
abbrev pub payloads_after :
    (List ℕ → Option (List (List ℕ))) → Option (List ℕ × List ℕ) → Option (List (List ℕ))
payloads_after rest_at None = None
payloads_after rest_at (Some frame) = in_front frame.0 (rest_at frame.1)

-- the payloads up to a gate that is not open, of at most so many records
abbrev pub payloads_at : ℕ → List ℕ → Option (List (List ℕ))
payloads_at zero bytes = None
payloads_at (suc most) [] = None
payloads_at (suc most) (gate ∷ bytes) =
    if gate == 1 then payloads_after (payloads_at most) (frame_at MAX_PAYLOAD bytes) else Some []

-- these payloads, and then those
abbrev pub behind : List (List ℕ) → Option (List (List ℕ)) → Option (List (List ℕ))
behind front None = None
behind front (Some payloads) = Some (front ++ payloads)

-- those that were read, and else none
abbrev pub or_none : Option (List (List ℕ)) → List (List ℕ)
or_none None = []
or_none (Some payloads) = payloads

-- the payloads of records that stand here; none if these bytes are no records
abbrev pub payloads_in : List ℕ → List (List ℕ)
payloads_in bytes = or_none (payloads_at (length bytes) bytes)

-- records stand here, up to a gate that is not open
abbrev pub HasRecords : List ℕ → Type 0
HasRecords bytes = IsSome (payloads_at (length bytes) bytes)

-- the area of this generation and snapshot, if its records could be read
abbrev pub area_with : ℕ → List ℕ → Option (List (List ℕ)) → Option Area
area_with generation snapshot None = None
area_with generation snapshot (Some payloads) =
    Some (record { generation = generation; snapshot = snapshot; payloads = payloads })

-- the area of this generation, if its snapshot could be read, and the records after it
abbrev pub area_after : ℕ → Option (List ℕ × List ℕ) → Option Area
area_after generation None = None
area_after generation (Some frame) = area_with generation frame.0 (payloads_at (length frame.1) frame.1)

-- the area in bytes that are cut to the largest one
abbrev pub area_at : List ℕ → Option Area
area_at [] = None
area_at (gate ∷ bytes) =
    if gate == 1
    then (if nat_lt (length bytes) 8 then None else area_after (eight_at bytes) (frame_at MAX_AREA (drop 8 bytes)))
    else None

-- The area that the bytes read as, if there is one.
unfoldable pub read_area : List ℕ → Option Area
read_area bytes = area_at (take MAX_AREA bytes)

-- an area that was read, and else an empty one
abbrev pub or_empty : Option Area → Area
or_empty None = record { generation = 0; snapshot = []; payloads = [] }
or_empty (Some area) = area

-- the area that the bytes read as, or else an empty one
abbrev pub area_in : List ℕ → Area
area_in bytes = or_empty (read_area bytes)

-- how many bytes stand from the last gate on, where the records end
abbrev pub bytes_left : List ℕ → Option ℕ
bytes_left bytes = option_map (λ payloads. length bytes - length (records_text payloads))
    (payloads_at (length bytes) bytes)
