-- Which faults the parts of a datagram have: neither its length nor memory.
use Rattle.std.proofs.Common.{ℕ, zero, suc, ◌-◌, ◌%◌, ◌^◌, List, [], ◌∷◌, length, drop, take, Bool, true, false, cond}
use Rattle.std.proofs.Common.{eqb, ltb, Option, Some, None, Result, Ok, Err}
use Rattle.std.specs.List.{list_all}
use Rattle.std.specs.Option.{ok_or}
use Rattle.std.specs.Int.{Width, w32, w64, byte_len, from_be_bytes, cast_signed}
use Rattle.cue_osc.specs.declared.fault.Fault.{Fault}
use Rattle.cue_osc.specs.declared.fault.Fault.TheVariants as faults
use Rattle.cue_osc.specs.Argument.{Argument, int, text, blob}
use Rattle.cue_osc.specs.Content.{Content, message, discarded, bundle, nothing, element}
use Rattle.cue_osc.specs.Spelling.{padding, is_known_tag}
use Rattle.cue_osc.specs.Reading.{◌>>=◌, text_len, number_at, padded_at, string_at, blob_at, arg_at, all_args_at}
use Rattle.cue_osc.specs.Reading.{tagged_at, after_address, message_at, is_size, element_at, elements_by}
use Rattle.cue_osc.specs.Reading.{is_message_start, is_bundle_start, bundle_by, packet_at}

-- a fault of a part
abbrev pub IsInside : Fault → Type 0
IsInside faults.TooLong = ⊥
IsInside faults.NotMultiple = ⊥
IsInside faults.Memory = ⊥
IsInside _ = Unit {0}

-- a part's fault, if it has one
abbrev pub FailsInside : {A : Type 0} → Result A Fault → Type 0
FailsInside (Ok x) = Unit {0}
FailsInside (Err f) = IsInside f

bind_inside : {A B : Type 0} (r : Result A Fault) (g : A → Result B Fault) → FailsInside r
    → ((x : A) → FailsInside (g x)) → FailsInside (r >>= g)
bind_inside (Ok x) g h k = k x
bind_inside (Err f) g h k = h

cond_inside : {A : Type 0} (b : Bool) (r s : Result A Fault) → FailsInside r → FailsInside s → FailsInside (cond b r s)
cond_inside true r s h k = h
cond_inside false r s h k = k

ok_or_inside : {A : Type 0} (o : Option A) (f : Fault) → IsInside f → FailsInside (ok_or o f)
ok_or_inside (Some x) f h = tt
ok_or_inside None f h = h

number_inside : (w : Width) (bytes : List ℕ) → FailsInside (number_at w bytes)
number_inside w bytes = cond_inside (ltb (length bytes) (byte_len w)) (Err faults.BadSize)
    (Ok (from_be_bytes w (take (byte_len w) bytes), drop (byte_len w) bytes)) tt tt

string_inside : (bytes : List ℕ) → FailsInside (string_at bytes)
unfolding string_at
string_inside bytes = ok_or_inside (padded_at (text_len bytes) (4 - text_len bytes % 4) bytes) faults.BadString tt

blob_inside : (bytes : List ℕ) → FailsInside (blob_at bytes)
unfolding blob_at
blob_inside bytes =
    bind_inside (number_at w32 bytes)
    (λ count. cond (ltb count.0 (2 ^ 31)) (ok_or (padded_at count.0 (padding count.0) count.1) faults.BadBlob)
    (Err faults.BadBlob)) (number_inside w32 bytes)
    (λ count. cond_inside (ltb count.0 (2 ^ 31)) (ok_or (padded_at count.0 (padding count.0) count.1) faults.BadBlob)
    (Err faults.BadBlob) (ok_or_inside (padded_at count.0 (padding count.0) count.1) faults.BadBlob tt) tt)

arg_inside : (kind : ℕ) (bytes : List ℕ) → FailsInside (arg_at kind bytes)
unfolding arg_at
arg_inside kind bytes =
    let as_int : Result (Argument × List ℕ) Fault =
    number_at w32 bytes >>= λ number. Ok (int (cast_signed w32 number.0), number.1) in
    let as_text : Result (Argument × List ℕ) Fault = string_at bytes >>= λ found. Ok (text found.0, found.1) in
    let as_blob : Result (Argument × List ℕ) Fault = blob_at bytes >>= λ found. Ok (blob found.0, found.1) in
    cond_inside (eqb kind 105) as_int (cond (eqb kind 115) as_text as_blob)
    (bind_inside (number_at w32 bytes) (λ number. Ok (int (cast_signed w32 number.0), number.1))
    (number_inside w32 bytes) (λ x. tt))
    (cond_inside (eqb kind 115) as_text as_blob
    (bind_inside (string_at bytes) (λ found. Ok (text found.0, found.1)) (string_inside bytes) (λ x. tt))
    (bind_inside (blob_at bytes) (λ found. Ok (blob found.0, found.1)) (blob_inside bytes) (λ x. tt)))

args_inside : (kinds bytes : List ℕ) → FailsInside (all_args_at kinds bytes)
unfolding all_args_at
args_inside [] bytes = cond_inside (eqb (length bytes) 0) (Ok []) (Err faults.Trailing) tt tt
args_inside (kind ∷ kinds) bytes =
    bind_inside (arg_at kind bytes) (λ first. all_args_at kinds first.1 >>= λ others. Ok (first.0 ∷ others))
    (arg_inside kind bytes)
    (λ first. bind_inside (all_args_at kinds first.1) (λ others. Ok (first.0 ∷ others)) (args_inside kinds first.1)
    (λ others. tt))

tagged_inside : (a bytes : List ℕ) → FailsInside (tagged_at a bytes)
unfolding tagged_at
tagged_inside a bytes =
    bind_inside (string_at bytes)
    (λ found. cond (list_all is_known_tag (drop 1 found.0))
    (all_args_at (drop 1 found.0) found.1 >>= λ xs. Ok (message a xs)) (Ok (discarded a))) (string_inside bytes)
    (λ found. cond_inside (list_all is_known_tag (drop 1 found.0))
    (all_args_at (drop 1 found.0) found.1 >>= λ xs. Ok (message a xs)) (Ok (discarded a))
    (bind_inside (all_args_at (drop 1 found.0) found.1) (λ xs. Ok (message a xs)) (args_inside (drop 1 found.0) found.1)
    (λ xs. tt)) tt)

behind_inside : (a rest : List ℕ) → FailsInside (after_address a rest)
unfolding after_address
behind_inside a [] = tt
behind_inside a (b ∷ bs) = cond_inside (eqb b 44) (tagged_at a (b ∷ bs)) (Ok (discarded a)) (tagged_inside a (b ∷ bs))
    tt

message_inside : (bytes : List ℕ) → FailsInside (message_at bytes)
unfolding message_at
message_inside bytes = bind_inside (string_at bytes) (λ a. after_address a.0 a.1) (string_inside bytes)
    (λ a. behind_inside a.0 a.1)

element_inside : (bytes : List ℕ) → FailsInside (element_at bytes)
unfolding element_at
element_inside bytes =
    bind_inside (number_at w32 bytes)
    (λ size. cond (is_size size.0 (length size.1)) (Ok (take size.0 size.1, drop size.0 size.1))
    (Err faults.BadSize)) (number_inside w32 bytes)
    (λ size. cond_inside (is_size size.0 (length size.1)) (Ok (take size.0 size.1, drop size.0 size.1))
    (Err faults.BadSize) tt tt)

elements_inside : (read : List ℕ → Result Content Fault) → ((bytes : List ℕ) → FailsInside (read bytes))
    → (n : ℕ) (bytes : List ℕ) → FailsInside (elements_by read n bytes)
unfolding elements_by
elements_inside read h zero bytes = tt
elements_inside read h (suc n) bytes =
    cond_inside (eqb (length bytes) 0) (Ok nothing) (element_at bytes >>= λ front. read front.0 >>= λ first. elements_by
    read n front.1 >>= λ others. Ok (element first others)) tt
    (bind_inside (element_at bytes) (λ front. read front.0 >>= λ first. elements_by read n front.1 >>= λ others.
    Ok (element first others)) (element_inside bytes)
    (λ front. bind_inside (read front.0) (λ first. elements_by read n front.1 >>= λ others. Ok (element first others))
    (h front.0)
    (λ first. bind_inside (elements_by read n front.1) (λ others. Ok (element first others))
    (elements_inside read h n front.1) (λ others. tt))))

bundle_inside : (read : List ℕ → Result Content Fault) → ((bytes : List ℕ) → FailsInside (read bytes))
    → (bytes : List ℕ) → FailsInside (bundle_by read bytes)
unfolding bundle_by
bundle_inside read h bytes =
    bind_inside (number_at w64 bytes) (λ time. elements_by read (length time.1) time.1 >>= λ items.
    Ok (bundle time.0 items)) (number_inside w64 bytes)
    (λ time. bind_inside (elements_by read (length time.1) time.1) (λ items. Ok (bundle time.0 items))
    (elements_inside read h (length time.1) time.1) (λ items. tt))

start_inside : (inner : Result Content Fault) (bytes : List ℕ) → FailsInside inner
    → FailsInside (cond (is_message_start bytes) (message_at bytes)
    (cond (is_bundle_start bytes) inner (Err faults.BadStart)))
start_inside inner bytes h =
    cond_inside (is_message_start bytes) (message_at bytes) (cond (is_bundle_start bytes) inner (Err faults.BadStart))
    (message_inside bytes)
    (cond_inside (is_bundle_start bytes) inner (Err faults.BadStart) h tt)

pub packet_inside : (d : ℕ) (bytes : List ℕ) → FailsInside (packet_at d bytes)
unfolding packet_at
packet_inside zero bytes = start_inside (Err faults.TooDeep) bytes tt
packet_inside (suc d) bytes = start_inside (bundle_by (packet_at d) (drop 8 bytes)) bytes
    (bundle_inside (packet_at d) (packet_inside d) (drop 8 bytes))
