-- What a jack tells of the devices that stand at it, and what a reading takes of a file.
use Rattle.std.specs.Prelude.{◌≤◌, ◌<◌, ℕ, Bool, true, false, List, [], ◌∷◌}
use Rattle.std.specs.Prelude.{take, length, Option, if◌then◌else◌, nat_le}
use Rattle.std.specs.Io.KnownBytes.{Consumes, IsAtEnd}
use Rattle.cue_buttons_run.specs.declared.jack.Came.{Came}
use Rattle.cue_buttons_run.specs.declared.jack.Came.TheVariants as came

-- what a reading gave
pub data Reading : Type 0 where
  -- these bytes
  gave : (bytes : List ℕ) → Reading
  -- nothing: none is there at this moment
  nothing : Reading
  -- no byte, and nobody knows whether one is there: a signal came first, or it is at its end, or it cannot be read
  silent : Reading

-- what a jack tells
pub data Told : Type 0 where
  -- a device was opened
  opened : Told
  -- a reading of it gave this
  reads : (reading : Reading) → Told

-- the first so many bytes of a room, if it has as many
abbrev pub bytes_in : ℕ → List ℕ → List ℕ
bytes_in n room = if nat_le n (length room) then take n room else []

-- what a call gave, with what stands in its room
abbrev pub reading_as : Came → List ℕ → Reading
reading_as (came.Bytes n) room = gave (bytes_in n room)
reading_as came.Nothing room = nothing
reading_as _ room = silent

abbrev pub told_as : Came → List ℕ → List Told
told_as c room = reads (reading_as c room) ∷ []

-- a device was opened, if it was
abbrev pub opened_if : Bool → List Told
opened_if true = opened ∷ []
opened_if false = []

-- the bytes stand in the room
abbrev pub IsWithin : Came → ℕ → Type 0
IsWithin (came.Bytes n) size = n ≤ size
IsWithin _ size = Unit {0}

-- the bytes that a reading gave
abbrev pub bytes_of : Reading → List ℕ
bytes_of (gave bytes) = bytes
bytes_of _ = []

-- The bytes that a file has left begin with those that a reading gave, and lose them, where they are known.
abbrev pub TakesOff : Came → List ℕ → (left left_then : Option (List ℕ)) → Type 0
TakesOff c room left left_then = Consumes left left_then (bytes_of (reading_as c room))

-- a file is told to be at its end only where no byte is left, if there was room for one
abbrev pub EndsAt : Came → ℕ → (left_then : Option (List ℕ)) → Type 0
EndsAt came.Ended size left_then = 0 < size → IsAtEnd left_then
EndsAt _ size left_then = Unit {0}
