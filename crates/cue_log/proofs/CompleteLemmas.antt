-- Reading an area from the front: what reads as an area is found.
use Rattle.std.proofs.Common.{◌≡◌, ◌≢◌, ℕ, zero, suc, ◌+◌, ◌<◌, ◌≤◌, ◌^◌, Bool, true, false, nat_le, nat_lt, ◌||◌, ◌==◌}
use Rattle.std.proofs.Common.{if◌then◌else◌, List, [], ◌∷◌, ◌++◌, length, get_or, take, drop, Some, None, refl, sym}
use Rattle.std.proofs.Common.{◌∙◌, ap, arith, append_assoc, length-append}
use Rattle.std.specs.Int.{w32, w64, from_be_bytes, to_be_bytes}
use Rattle.std.proofs.lemmas.Nat.{from_be_bytes-to_be_bytes_4, from_be_bytes-to_be_bytes_8}
use Rattle.std.proofs.lemmas.Bool.{and_parts}
use Rattle.std.proofs.lemmas.Bool.Decides.{nat_tests}
use borrow.Author.Tests.{leb-true}
use Rattle.std.proofs.lemmas.List.{length-take, take_at, drop_at, take-take, get_or-take}
use Rattle.cue_log.specs.declared.area.TheConstants.{MAX_AREA, MAX_PAYLOAD}
use Rattle.cue_log.specs.Area.{Area, IsArea, area_text, records_text, are_records, frame_of, body_text, four_bytes}
use Rattle.cue_log.specs.Area.{eight_bytes}
use Rattle.cue_log.specs.Reading.{four_at, eight_at, frame_at, in_front, payloads_after, payloads_at, area_with}
use Rattle.cue_log.specs.Reading.{area_after, area_at, read_area, area_in, or_empty}
use Rattle.cue_log.proofs.TextLemmas.{length-four_bytes, length-eight_bytes, length-framed, split_at}

-- the number that stands in front
four_read : (n : ℕ) (rest : List ℕ) → n < 2 ^ 32 → four_at (four_bytes n ++ rest) ≡ n
unfolding four_at four_bytes
four_read n rest fits = ap (from_be_bytes w32) (take_at (to_be_bytes w32 n) rest 4 refl)
    ∙ from_be_bytes-to_be_bytes_4 n fits

eight_read : (n : ℕ) (rest : List ℕ) → n < 2 ^ 64 → eight_at (eight_bytes n ++ rest) ≡ n
unfolding eight_at eight_bytes
eight_read n rest fits = ap (from_be_bytes w64) (take_at (to_be_bytes w64 n) rest 8 refl)
    ∙ from_be_bytes-to_be_bytes_8 n fits

-- A framed text that is not too long is read as itself, with what follows.
pub frame_read : (most : ℕ) (text rest : List ℕ) → length text ≤ most → length text < 2 ^ 32
    → frame_at most (frame_of text ++ rest) ≡ Some (text, rest)
unfolding frame_at
frame_read most text rest short fits =
    let whole : List ℕ = frame_of text ++ rest in
    let split : whole ≡ four_bytes (length text) ++ (text ++ rest) =
    append_assoc (four_bytes (length text)) text rest in
    let number : four_at whole ≡ length text = ap four_at split ∙ four_read (length text) (text ++ rest) fits in
    let long : length whole ≡ 4 + length text + length rest =
    omega (arith, length-append (frame_of text) rest, length-framed text) in
    let behind : drop 4 whole ≡ text ++ rest = ap (λ (l : List ℕ). drop 4 l) split
    ∙ drop_at (four_bytes (length text)) (text ++ rest) 4 (length-four_bytes (length text)) in
    let front : take (four_at whole) (drop 4 whole) ≡ text = (λ i. take (number i) (behind i))
    ∙ take_at text rest (length text) refl in
    let last : drop (4 + four_at whole) whole ≡ rest = ap (λ (n : ℕ). drop (4 + n) whole) number
    ∙ drop_at (frame_of text) rest (4 + length text) (length-framed text) in
    let test : (nat_lt (length whole) 4 || (nat_lt most (four_at whole) || nat_lt (length whole) (4 + four_at whole)))
    ≡ false = grind (arith, nat_tests, number, long) in
    ap (λ (b : Bool). if b then None else Some (take (four_at whole) (drop 4 whole), drop (4 + four_at whole) whole))
    test ∙ (λ i. Some (front i, last i))

-- how long the records are: longer than there are many
pub length-records_text : (payloads : List (List ℕ)) → length payloads ≤ length (records_text payloads)
length-records_text [] = omega arith
length-records_text (payload ∷ payloads) =
    omega (arith, length-append (1 ∷ frame_of payload) (records_text payloads), length-records_text payloads)

-- Records up to a gate that is not open are read as their payloads.
pub payloads_read : (payloads : List (List ℕ)) (most gate : ℕ) (rest : List ℕ) → length payloads < most → gate ≢ 1
    → are_records payloads ≡ true → payloads_at most (records_text payloads ++ gate ∷ rest) ≡ Some payloads
payloads_read payloads zero gate rest enough shut records = absurd (omega (arith, enough))
payloads_read [] (suc most) gate rest enough shut records =
    let test : (gate == 1) ≡ false = grind (arith, nat_tests, shut) in
    ap (λ (b : Bool). if b then payloads_after (payloads_at most) (frame_at MAX_PAYLOAD rest) else Some []) test
payloads_read (payload ∷ payloads) (suc most) gate rest enough shut records =
    let parts = and_parts (nat_le (length payload) MAX_PAYLOAD) (are_records payloads) records in
    let short : length payload ≤ MAX_PAYLOAD = leb-true _ _ parts.0 in
    let behind : List ℕ = records_text payloads ++ gate ∷ rest in
    let split : (frame_of payload ++ records_text payloads) ++ gate ∷ rest ≡ frame_of payload ++ behind =
    append_assoc (frame_of payload) (records_text payloads) (gate ∷ rest) in
    let read : frame_at MAX_PAYLOAD ((frame_of payload ++ records_text payloads) ++ gate ∷ rest) ≡ Some
    (payload, behind) =
    ap (frame_at MAX_PAYLOAD) split ∙ frame_read MAX_PAYLOAD payload behind short (omega (arith, short)) in
    ap (payloads_after (payloads_at most)) read
    ∙ ap (in_front payload) (payloads_read payloads most gate rest (omega (arith, enough)) shut parts.1)

-- a head gate, a generation, a snapshot, and payloads
pub area_found : (area : Area) (gate : ℕ) (rest : List ℕ) → gate ≢ 1 → length area.snapshot ≤ MAX_AREA
    → area.generation < 2 ^ 64 → are_records area.payloads ≡ true → area_at (area_text area ++ gate ∷ rest) ≡ Some area
area_found area gate rest shut short generation records =
    let number : List ℕ = eight_bytes area.generation in
    let tail : List ℕ = records_text area.payloads ++ gate ∷ rest in
    let text : List ℕ = ((number ++ frame_of area.snapshot) ++ records_text area.payloads) ++ gate ∷ rest in
    let split : text ≡ number ++ (frame_of area.snapshot ++ tail) = simp append_assoc in
    let long : nat_lt (length text) 8 ≡ false =
    grind (
      arith,
      nat_tests,
      ap length split,
      length-append number (frame_of area.snapshot ++ tail),
      length-eight_bytes area.generation,
    ) in
    let first : eight_at text ≡ area.generation = ap eight_at split
    ∙ eight_read area.generation (frame_of area.snapshot ++ tail) generation in
    let behind : drop 8 text ≡ frame_of area.snapshot ++ tail = ap (λ (l : List ℕ). drop 8 l) split
    ∙ drop_at number (frame_of area.snapshot ++ tail) 8 (length-eight_bytes area.generation) in
    let frame : frame_at MAX_AREA (drop 8 text) ≡ Some (area.snapshot, tail) = ap (frame_at MAX_AREA) behind
    ∙ frame_read MAX_AREA area.snapshot tail short (omega (arith, short)) in
    let payloads : payloads_at (length tail) tail ≡ Some area.payloads =
    payloads_read area.payloads (length tail) gate rest
    (omega (arith, length-append (records_text area.payloads) (gate ∷ rest), length-records_text area.payloads))
    shut records in
    ap (λ (b : Bool). if b then None else area_after (eight_at text) (frame_at MAX_AREA (drop 8 text))) long
    ∙ (λ i. area_after (first i) (frame i))
    ∙ ap (area_with area.generation area.snapshot) payloads

-- Bytes that read as an area are read as it.
pub complete : (area : Area) (bytes : List ℕ) → IsArea area bytes → read_area bytes ≡ Some area
unfolding read_area
complete area bytes is =
    let end = length (area_text area) in
    let cut : List ℕ = take MAX_AREA bytes in
    let within : end < length cut = omega (arith, length-take MAX_AREA bytes, is.fits, is.ends) in
    let front : take end cut ≡ area_text area = take-take end MAX_AREA bytes (omega (arith, is.fits)) ∙ is.text in
    let gate : get_or cut end 0 ≡ get_or bytes end 0 = get_or-take MAX_AREA bytes end 0 is.fits in
    let split : cut ≡ area_text area ++ get_or cut end 0 ∷ drop (end + 1) cut = split_at cut end within
    ∙ ap (λ (l : List ℕ). l ++ get_or cut end 0 ∷ drop (end + 1) cut) front in
    let short : length area.snapshot ≤ MAX_AREA =
    omega (
      arith,
      is.fits,
      length-append (body_text area.generation area.snapshot) (records_text area.payloads),
      length-append (eight_bytes area.generation) (frame_of area.snapshot),
      length-framed area.snapshot,
    ) in
    ap area_at split ∙ area_found area (get_or cut end 0) (drop (end + 1) cut) (λ opened. is.closed (sym gate ∙ opened))
    short is.generation is.records

-- At most one area belongs to the same bytes.
pub unique : (a b : Area) (bytes : List ℕ) → IsArea a bytes → IsArea b bytes → a ≡ b
unique a b bytes is_a is_b = cc (complete a bytes is_a, complete b bytes is_b)

pub area_in_is : (area : Area) (bytes : List ℕ) → IsArea area bytes → area_in bytes ≡ area
area_in_is area bytes is = ap or_empty (complete area bytes is)
