-- Helper: reading from front to back, a field after the other. What is found is what the grammar of `Spelling.antt`
-- says, by the law `reading_is_the_grammar`. Which fault is met first is said here alone.
use Rattle.std.specs.Prelude.{◌≡◌, ℕ, zero, suc, ◌-◌, ◌%◌, ◌^◌, List, [], ◌∷◌, length, take, drop, Bool, false, ◌&&◌}
use Rattle.std.specs.Prelude.{not, Option, Some, None, Result, Ok, Err, nat_lt, nat_le, nat_eq, ◌==◌, if◌then◌else◌}
use Rattle.std.specs.List.{list_all, prefix_len, starts_with}
use Rattle.std.specs.Option.{ok_or}
use Rattle.std.specs.Int.{Width, w32, w64, byte_len, from_be_bytes, cast_signed}
use Rattle.cue_osc.specs.declared.fault.Fault.{Fault}
use Rattle.cue_osc.specs.declared.fault.Fault.TheVariants.{TooLong, NotMultiple, BadStart, BadString, BadBlob, BadSize}
use Rattle.cue_osc.specs.declared.fault.Fault.TheVariants.{TooDeep, Trailing, Memory}
use Rattle.cue_osc.specs.Argument.{Argument, int, text, blob}
use Rattle.cue_osc.specs.Content.{Content, message, discarded, bundle, Contents, nothing, element}
use Rattle.cue_osc.specs.Spelling.{slash, comma, padding, is_known_tag, bundle_head}
use Rattle.cue_osc.specs.declared.limits.TheConstants.{MAX_LEN, MAX_DEPTH}

-- one step, and the next if it did not fail
infixl 10 ◌>>=◌
abbrev pub ◌>>=◌ : {A B : Type 0} → Result A Fault → (A → Result B Fault) → Result B Fault
(Ok x) >>= f = f x
(Err e) >>= f = Err e

-- a function's fault is the one that reading gives; that memory ran out says nothing
abbrev pub Fails : {Y : Type 0} → Fault → Result Y Fault → Type 0
Fails Memory read = Unit {0}
Fails f read = read ≡ Err f

-- what a function returned, seen by view, is what reading gives, unless memory ran out
abbrev pub Gives : {X Y : Type 0} → (X → Y) → Result X Fault → Result Y Fault → Type 0
Gives view (Ok x) read = read ≡ Ok (view x)
Gives view (Err e) read = Fails e read

-- whether each byte is zero
abbrev pub are_zeros : List ℕ → Bool
are_zeros bytes = list_all (λ b. b == 0) bytes

-- a number, and the bytes after it
abbrev pub number_at : Width → List ℕ → Result (ℕ × List ℕ) Fault
number_at w bytes =
    if nat_lt (length bytes) (byte_len w) then Err BadSize
    else Ok (from_be_bytes w (take (byte_len w) bytes), drop (byte_len w) bytes)

-- n bytes and k zeros, and the bytes after them
unfoldable pub padded_at : ℕ → ℕ → List ℕ → Option (List ℕ × List ℕ)
padded_at n k bytes =
    if nat_lt (length bytes) n then None else if nat_lt (length (drop n bytes)) k then None
    else if are_zeros (take k (drop n bytes)) then Some (take n bytes, drop k (drop n bytes)) else None

-- the number of bytes before the first null
abbrev pub text_len : List ℕ → ℕ
text_len bytes = prefix_len (λ b. not (b == 0)) bytes

-- an OSC-string, and the bytes after it
unfoldable pub string_at : List ℕ → Result (List ℕ × List ℕ) Fault
string_at bytes = ok_or (padded_at (text_len bytes) (4 - text_len bytes % 4) bytes) BadString

-- an OSC-blob, and the bytes after it: a negative count is BadBlob, one that is cut off BadSize
unfoldable pub blob_at : List ℕ → Result (List ℕ × List ℕ) Fault
blob_at bytes = do
  count ← number_at w32 bytes
  if nat_lt count.0 (2 ^ 31) then ok_or (padded_at count.0 (padding count.0) count.1) BadBlob else Err BadBlob

-- an argument whose tag is i, s or else b, and the bytes after it
unfoldable pub arg_at : ℕ → List ℕ → Result (Argument × List ℕ) Fault
arg_at kind bytes =
    if kind == 105 then (do
      number ← number_at w32 bytes
      Ok (int (cast_signed w32 number.0), number.1)) else
    if kind == 115 then (do
      found ← string_at bytes
      Ok (text found.0, found.1)) else (do
        found ← blob_at bytes
        Ok (blob found.0, found.1))

-- one argument for each tag, all of the bytes
unfoldable pub all_args_at : List ℕ → List ℕ → Result (List Argument) Fault
all_args_at [] bytes = if length bytes == 0 then Ok [] else Err Trailing
all_args_at (kind ∷ kinds) bytes = do
  first ← arg_at kind bytes
  others ← all_args_at kinds first.1
  Ok (first.0 ∷ others)

-- what stands after an address, beginning with a type tag string: all tags are looked at first
unfoldable pub tagged_at : List ℕ → List ℕ → Result Content Fault
tagged_at a bytes = do
  found ← string_at bytes
  if list_all is_known_tag (drop 1 found.0) then (do
    xs ← all_args_at (drop 1 found.0) found.1
    Ok (message a xs)) else Ok (discarded a)

-- what stands after an address
unfoldable pub after_address : List ℕ → List ℕ → Result Content Fault
after_address a [] = Ok (message a [])
after_address a (b ∷ bs) = if b == comma then tagged_at a (b ∷ bs) else Ok (discarded a)

-- a message, all of the bytes
unfoldable pub message_at : List ℕ → Result Content Fault
message_at bytes = do
  a ← string_at bytes
  after_address a.0 a.1

-- whether an element may be so long, if so many bytes are left
abbrev pub is_size : ℕ → ℕ → Bool
is_size n left = nat_lt 0 n && (nat_lt n (2 ^ 31) && ((n % 4 == 0) && nat_le n left))

-- an element's bytes, and the bytes after it
unfoldable pub element_at : List ℕ → Result (List ℕ × List ℕ) Fault
element_at bytes = do
  size ← number_at w32 bytes
  if is_size size.0 (length size.1) then Ok (take size.0 size.1, drop size.0 size.1) else Err BadSize

-- the elements, at most so many, each by read
unfoldable pub elements_by : (List ℕ → Result Content Fault) → ℕ → List ℕ → Result Contents Fault
elements_by read zero bytes = Ok nothing
elements_by read (suc n) bytes = if length bytes == 0 then Ok nothing else (do
  front ← element_at bytes
  first ← read front.0
  others ← elements_by read n front.1
  Ok (element first others))

-- whether a message begins here
abbrev pub is_message_start : List ℕ → Bool
is_message_start [] = false
is_message_start (b ∷ bs) = b == slash

-- whether a bundle begins here
abbrev pub is_bundle_start : List ℕ → Bool
is_bundle_start bytes = starts_with nat_eq bytes bundle_head

-- what stands after a bundle's head, its elements by read
unfoldable pub bundle_by : (List ℕ → Result Content Fault) → List ℕ → Result Content Fault
bundle_by read bytes = do
  time ← number_at w64 bytes
  items ← elements_by read (length time.1) time.1
  Ok (bundle time.0 items)

-- a packet, if inner is what is read of it as a bundle
abbrev pub start_at : Result Content Fault → List ℕ → Result Content Fault
start_at inner bytes =
    if is_message_start bytes then message_at bytes else if is_bundle_start bytes then inner else Err BadStart

-- a packet, all of the bytes, with bundles at most so deep
unfoldable pub packet_at : ℕ → List ℕ → Result Content Fault
packet_at zero bytes = start_at (Err TooDeep) bytes
packet_at (suc d) bytes = start_at (bundle_by (packet_at d) (drop 8 bytes)) bytes

-- a datagram
unfoldable pub datagram_at : List ℕ → Result Content Fault
datagram_at bytes =
    if nat_lt MAX_LEN (length bytes) then Err TooLong else if not (length bytes % 4 == 0) then Err NotMultiple
    else packet_at MAX_DEPTH bytes
