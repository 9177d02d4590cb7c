-- Helper: reading fields from the front of the bytes, what is found and the bytes after it. How each is spelled stands
-- in `Fields.antt`; the laws `batches_are_read_back` and `states_are_read_back` tie the two.
use Rattle.std.specs.Prelude.{◌≡◌, ℕ, zero, suc, Bool, true, false, ◌&&◌, ◌==◌, if◌then◌else◌, List, [], ◌∷◌, length}
use Rattle.std.specs.Prelude.{take, drop, Option, None, Some, Result, Ok, Err, nat_le, nat_lt}
use Rattle.std.specs.Int.{Width, w16, w32, byte_len, from_be_bytes}
use Rattle.cue_show.specs.DeviceNumber.{is_device}
use Rattle.cue_show.specs.Devices.{distinct, devices_in}
use Rattle.cue_show.specs.Number.{is_cue_number}
use Rattle.cue_show.specs.Parts.{has_required_part}
use Rattle.cue_show.specs.declared.limits.TheConstants.{MAX_PARTS, MAX_PART_BYTES}
use Rattle.cue_show.specs.declared.part.Part.{Part}
use Rattle.cue_exchange.specs.Live.{is_number}
use Rattle.cue_exchange.specs.declared.attempt.Reason.{Reason}
use Rattle.cue_exchange.specs.declared.attempt.Reason.TheVariants.{Operator, Deadline, Abort, Power, Release}
use Rattle.cue_records.specs.declared.fault.ReadFault.{ReadFault}
use Rattle.cue_records.specs.declared.fault.ReadFault.TheVariants as fault
use Rattle.cue_records.specs.declared.parts_form.PartsForm.{PartsForm}
use Rattle.cue_records.specs.declared.parts_form.PartsForm.TheVariants.{Plain, Flagged}

-- ---- what a reader is

-- a value and the bytes after it, or none
abbrev pub Reads : Type 0 → Type 0
Reads X = List ℕ → Option (X × List ℕ)

-- one step, and the next if it found something
infixl 10 ◌>>=◌
abbrev pub ◌>>=◌ : {A B : Type 0} → Option A → (A → Option B) → Option B
(Some x) >>= f = f x
None >>= f = None

-- a fault says that nothing is found; that memory ran out says nothing
abbrev pub Fails : {Y : Type 0} → ReadFault → Option Y → Type 0
Fails fault.Memory read = Unit {0}
Fails fault.Malformed read = read ≡ None

-- what a function returned, seen by view, is what reading gives, unless memory ran out
abbrev pub Gives : {X Y : Type 0} → (X → Y) → Result X ReadFault → Option Y → Type 0
Gives view (Ok x) read = read ≡ Some (view x)
Gives view (Err e) read = Fails e read

-- ---- readers of readers

-- the value, if it passes the test
abbrev pub where_it : {A : Type 0} → Bool → A → Option A
where_it test x = if test then Some x else None

-- what is read, if it passes the test
abbrev pub where_at : {A : Type 0} → (A → Bool) → Reads A → Reads A
where_at test read bytes = read bytes >>= λ x. where_it (test x.0) x

-- what is made of what is read, if something is
abbrev pub made_at : {A B : Type 0} → (A → Option B) → Reads A → Reads B
made_at make read bytes = read bytes >>= λ x. make x.0 >>= λ y. Some (y, x.1)

-- what is read, seen as something else
abbrev pub as_at : {A B : Type 0} → (A → B) → Reads A → Reads B
as_at make read bytes = read bytes >>= λ x. Some (make x.0, x.1)

-- one after the other
abbrev pub both_at : {A B : Type 0} → Reads A → Reads B → Reads (A × B)
both_at first second bytes = first bytes >>= λ a. second a.1 >>= λ b. Some ((a.0, b.0), b.1)

-- so many of them, one after the other
unfoldable pub list_at : {A : Type 0} → Reads A → ℕ → Reads (List A)
list_at read zero bytes = Some ([], bytes)
list_at read (suc n) bytes = read bytes >>= λ x. list_at read n x.1 >>= λ xs. Some (x.0 ∷ xs.0, xs.1)

-- a count, and so many of them
abbrev pub counted_at : {A : Type 0} → Reads ℕ → Reads A → Reads (List A)
counted_at count read bytes = count bytes >>= λ n. list_at read n.0 n.1

-- ---- the fields

-- one byte
abbrev pub byte_at : Reads ℕ
byte_at [] = None
byte_at (b ∷ rest) = Some (b, rest)

-- the bytes of a number
abbrev pub number_at : Width → Reads ℕ
number_at w bytes =
    if nat_lt (length bytes) (byte_len w) then None
    else Some (from_be_bytes w (take (byte_len w) bytes), drop (byte_len w) bytes)

-- so many bytes
abbrev pub bytes_at : ℕ → Reads (List ℕ)
bytes_at n bytes = if nat_lt (length bytes) n then None else Some (take n bytes, drop n bytes)

-- a length in one byte, and so many bytes
unfoldable pub text_at : Reads (List ℕ)
text_at bytes = byte_at bytes >>= λ n. bytes_at n.0 n.1

-- a device number
unfoldable pub device_at : Reads ℕ
device_at = where_at is_device byte_at

-- a port
unfoldable pub port_at : Reads ℕ
port_at = where_at (nat_le 1) (number_at w16)

-- the number of an attempt
unfoldable pub sequence_at : Reads ℕ
sequence_at = where_at is_number (number_at w32)

-- a cue number
unfoldable pub cue_at : Reads (List ℕ)
cue_at = where_at is_cue_number text_at

-- the bytes of a part, at most 32
unfoldable pub part_bytes_at : Reads (List ℕ)
part_bytes_at = where_at (λ bytes. nat_le (length bytes) MAX_PART_BYTES) text_at

-- whether a part is optional, by the number of its flag
abbrev pub flag_of : ℕ → Option Bool
flag_of n = if n == 0 then Some false else if n == 1 then Some true else None

-- the flag of a part; a part without one is required
unfoldable pub flag_at : PartsForm → Reads Bool
flag_at Plain = λ bytes. Some (false, bytes)
flag_at Flagged = made_at flag_of byte_at

-- a device, its flag and its bytes
unfoldable pub part_at : PartsForm → Reads Part
part_at form =
    as_at (λ x. record { device = x.0; optional = x.1.0; bytes = x.1.1 })
    (both_at device_at (both_at (flag_at form) part_bytes_at))

-- a count of parts, at most 16
unfoldable pub part_count_at : Reads ℕ
part_count_at = where_at (λ n. nat_le n MAX_PARTS) byte_at

-- a count, and so many parts of distinct devices, at least one of them required
unfoldable pub parts_at : PartsForm → Reads (List Part)
parts_at form =
    where_at (λ parts. has_required_part parts && distinct (devices_in parts))
    (counted_at part_count_at (part_at form))

-- a device and its port
unfoldable pub entry_at : Reads (ℕ × ℕ)
entry_at = both_at device_at port_at

-- a cue and its parts
unfoldable pub new_cue_at : PartsForm → Reads (List ℕ × List Part)
new_cue_at form = both_at cue_at (parts_at form)

-- the reason with the number
abbrev pub reason_of : ℕ → Option Reason
reason_of n =
    if n == 1 then Some Operator else if n == 2 then Some Deadline else if n == 3 then Some Abort
    else if n == 4 then Some Power else if n == 5 then Some Release else None

-- a reason
unfoldable pub reason_at : Reads Reason
reason_at = made_at reason_of byte_at
