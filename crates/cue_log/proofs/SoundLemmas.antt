-- Reading an area from the front: what is found is there.
use Rattle.std.proofs.Common.{◌≡◌, ◌≢◌, ◌⊎◌, ℕ, zero, suc, ◌+◌, ◌-◌, ◌<◌, ◌≤◌, ◌^◌, Bool, true, false, nat_lt, nat_le}
use Rattle.std.proofs.Common.{◌==◌, if◌then◌else◌, List, [], ◌∷◌, ◌++◌, length, get_or, take, drop, Option, Some, None}
use Rattle.std.proofs.Common.{refl, inl, inr, sym, ◌∙◌, ap, subst, arith, append_assoc, length-append, length-drop}
use Rattle.std.proofs.Common.{take-append-drop}
use Rattle.std.specs.Option.{option_map}
use Rattle.std.specs.Prelude.{IsSome}
use Rattle.std.proofs.lemmas.Bool.{cases_eq, cases_lt, le-leb, and_from}
use Rattle.std.proofs.lemmas.Bool.Decides.{nat_tests}
use Rattle.std.proofs.lemmas.List.{length-take, drop-drop, get_or-drop, get_or-take, get_or_past}
use Rattle.std.proofs.lemmas.Nat.{be_bytes_4, be_bytes_8}
use Rattle.cue_log.specs.declared.area.TheConstants.{MAX_AREA, MAX_PAYLOAD, HEAD_LEN}
use Rattle.cue_log.specs.Area.{Area, IsArea, IsAbsent, area_text, frame_of, records_text, are_records, four_bytes}
use Rattle.cue_log.specs.Area.{eight_bytes}
use Rattle.cue_log.specs.Reading.{frame_at, four_at, eight_at, in_front, payloads_after, payloads_at, area_with}
use Rattle.cue_log.specs.Reading.{area_after, area_at, read_area, bytes_left}
use Rattle.cue_log.specs.Log.{IsFront, IsDamaged}
use Rattle.cue_log.specs.Laws.{AreBytes, AnyBytesAnswer, NoAreaIsAbsent}
use Rattle.cue_log.proofs.CompleteLemmas.{complete, length-records_text}
use Rattle.cue_log.proofs.TextLemmas.{length-framed, length-area_text, reads, longer_reads}
use Rattle.cue_log.proofs.StepLemmas.{frame_parts, length-frame_at}

-- one record that is read, and those after it
pub record OneMore (most : ℕ) (bytes : List ℕ) (payloads : List (List ℕ)) : Type 0 where
  pub payload : List ℕ
  pub rest : List ℕ
  pub others : List (List ℕ)
  pub frame : frame_at MAX_PAYLOAD bytes ≡ Some (payload, rest)
  pub read : payloads_at most rest ≡ Some others
  pub is : payloads ≡ payload ∷ others

others_read : (most : ℕ) (bytes payload rest : List ℕ) (payloads : List (List ℕ)) (others : Option (List (List ℕ)))
    → frame_at MAX_PAYLOAD bytes ≡ Some (payload, rest) → payloads_at most rest ≡ others
    → in_front payload others ≡ Some payloads → OneMore most bytes payloads
others_read most bytes payload rest payloads None frame read is = absurd (cc (is))
others_read most bytes payload rest payloads (Some others) frame read is =
    let same : payload ∷ others ≡ payloads = cc (is) in
    record { payload = payload; rest = rest; others = others; frame = frame; read = read; is = sym same }

frame_read : (most : ℕ) (bytes : List ℕ) (payloads : List (List ℕ)) (frame : Option (List ℕ × List ℕ))
    → frame_at MAX_PAYLOAD bytes ≡ frame → payloads_after (payloads_at most) frame ≡ Some payloads
    → OneMore most bytes payloads
frame_read most bytes payloads None frame is = absurd (cc (is))
frame_read most bytes payloads (Some parts) frame is =
    others_read most bytes parts.0 parts.1 payloads (payloads_at most parts.1) frame refl is

-- What is read from a gate on: nothing, where it is not open, and else one record and others.
pub gate_read : (most gate : ℕ) (bytes : List ℕ) (payloads : List (List ℕ))
    → payloads_at (suc most) (gate ∷ bytes) ≡ Some payloads → ((gate ≢ 1) × (payloads ≡ []))
    ⊎ ((gate ≡ 1) × OneMore most bytes payloads)
gate_read most gate bytes payloads is =
    let after : Option (List (List ℕ)) = payloads_after (payloads_at most) (frame_at MAX_PAYLOAD bytes) in
    elim (cases_eq gate 1) [
      | inl open_ ↦
          let test : (gate == 1) ≡ true = grind (arith, nat_tests, open_) in
          let some : after ≡ Some payloads = sym (ap (λ (b : Bool). if b then after else Some []) test) ∙ is in
          inr (open_, frame_read most bytes payloads (frame_at MAX_PAYLOAD bytes) refl some)
      | inr shut ↦
          let test : (gate == 1) ≡ false = grind (arith, nat_tests, shut) in
          let some : Some [] ≡ Some payloads = sym (ap (λ (b : Bool). if b then after else Some []) test) ∙ is in
          inl (shut, cc (some))
    ]

-- The records that are read end before the bytes do.
pub length-read : (most : ℕ) (bytes : List ℕ) (payloads : List (List ℕ)) → payloads_at most bytes ≡ Some payloads
    → length (records_text payloads) < length bytes
length-read zero bytes payloads is = absurd (cc (is))
length-read (suc most) [] payloads is = absurd (cc (is))
length-read (suc most) (gate ∷ bytes) payloads is = elim (gate_read most gate bytes payloads is) [
  | inl none ↦ omega (arith, ap (λ (l : List (List ℕ)). length (records_text l)) none.1)
  | inr some ↦
      let one = some.1 in
      omega (
        arith,
        ap (λ (l : List (List ℕ)). length (records_text l)) one.is,
        length-append (1 ∷ frame_of one.payload) (records_text one.others),
        length-framed one.payload,
        length-frame_at MAX_PAYLOAD bytes one.payload one.rest one.frame,
        length-read most one.rest one.others one.read,
      )
]

-- Where the last gate stands, counted from the end.
pub last_gate : (area : Area) (len behind : ℕ) (tail : List ℕ) → Some behind ≡ bytes_left tail
    → payloads_at (length tail) tail ≡ Some area.payloads → HEAD_LEN + length area.snapshot + length tail ≡ len
    → (len - behind ≡ length (area_text area)) × (len - behind < len)
last_gate area len behind tail counted read parts =
    let left : Some behind ≡ Some (length tail - length (records_text area.payloads)) = counted
    ∙ ap (option_map (λ (payloads : List (List ℕ)). length tail - length (records_text payloads))) read in
    let is : behind ≡ length tail - length (records_text area.payloads) = cc (left) in
    let within = length-read (length tail) tail area.payloads read in
    let long = length-area_text area in
    (omega (arith, is, within, long, parts), omega (arith, is, within, parts))

-- There are no more records than bytes in front of the last gate.
pub few_records : (area : Area) → length area.payloads ≤ length (area_text area)
few_records area = omega (arith, length-area_text area, length-records_text area.payloads)

bytes_of_drop : (n : ℕ) (bytes : List ℕ) → AreBytes bytes → AreBytes (drop n bytes)
bytes_of_drop n bytes are i = subst (λ (b : ℕ). b < 256) (sym (get_or-drop n bytes i 0)) (are (n + i))

bytes_of_take : (n : ℕ) (bytes : List ℕ) → AreBytes bytes → AreBytes (take n bytes)
bytes_of_take n bytes are i = elim (cases_lt i n) [
  | inl within ↦ subst (λ (b : ℕ). b < 256) (sym (get_or-take n bytes i 0 within)) (are i)
  | inr past ↦ let none : get_or (take n bytes) i 0 ≡ 0 =
      get_or_past (take n bytes) i 0 (omega (arith, length-take n bytes)) in omega (arith, none)
]

-- A frame that is found stands there.
frame_text : (most : ℕ) (bytes text rest : List ℕ) → AreBytes bytes → frame_at most bytes ≡ Some (text, rest)
    → bytes ≡ frame_of text ++ rest
unfolding four_at four_bytes
frame_text most bytes text rest are is =
    let parts = frame_parts most bytes text rest is in
    let n : ℕ = four_at bytes in
    let long : length text ≡ n =
    omega (arith, ap length parts.text_is, length-take n (drop 4 bytes), length-drop 4 bytes, parts.reach) in
    let number : four_bytes n ≡ take 4 bytes =
    be_bytes_4 (take 4 bytes) n (omega (arith, length-take 4 bytes, parts.reach)) (bytes_of_take 4 bytes are)
    refl in
    let front : frame_of text ≡ take 4 bytes ++ take n (drop 4 bytes) = (λ i. four_bytes (long i) ++ parts.text_is i)
    ∙ ap (λ (l : List ℕ). l ++ take n (drop 4 bytes)) number in
    let back : rest ≡ drop n (drop 4 bytes) = parts.rest_is ∙ sym (drop-drop n 4 bytes) in
    sym (take-append-drop 4 bytes)
    ∙ ap (λ (l : List ℕ). take 4 bytes ++ l) (sym (take-append-drop n (drop 4 bytes)))
    ∙ sym (append_assoc (take 4 bytes) (take n (drop 4 bytes)) (drop n (drop 4 bytes)))
    ∙ (λ i. sym front i ++ sym back i)

frame_short : (most : ℕ) (bytes text rest : List ℕ) → frame_at most bytes ≡ Some (text, rest) → length text ≤ most
frame_short most bytes text rest is =
    let parts = frame_parts most bytes text rest is in
    omega (arith, parts.within, ap length parts.text_is, length-take (four_at bytes) (drop 4 bytes))

-- what stands after a frame is bytes, where all is
frame_bytes : (most : ℕ) (bytes text rest : List ℕ) → AreBytes bytes → frame_at most bytes ≡ Some (text, rest)
    → AreBytes rest
frame_bytes most bytes text rest are is = subst AreBytes (sym (frame_parts most bytes text rest is).rest_is)
    (bytes_of_drop (4 + four_at bytes) bytes are)

-- the records, and a gate that is not open
pub record TextOf (payloads : List (List ℕ)) (bytes : List ℕ) : Type 0 where
  pub gate : ℕ
  pub rest : List ℕ
  pub is : bytes ≡ records_text payloads ++ gate ∷ rest
  pub shut : gate ≢ 1
  pub records : are_records payloads ≡ true

-- Records that are found stand there.
pub records_found : (most : ℕ) (bytes : List ℕ) (payloads : List (List ℕ)) → AreBytes bytes
    → payloads_at most bytes ≡ Some payloads → TextOf payloads bytes
records_found zero bytes payloads are is = absurd (cc (is))
records_found (suc most) [] payloads are is = absurd (cc (is))
records_found (suc most) (gate ∷ bytes) payloads are is = elim (gate_read most gate bytes payloads is) [
  | inl none ↦ record {
    gate = gate;
    rest = bytes;
    is = ap (λ (l : List (List ℕ)). records_text l ++ gate ∷ bytes) (sym none.1);
    shut = none.0;
    records = ap are_records none.1;
  }
  | inr some ↦
      let one = some.1 in
      let are_next : AreBytes bytes = λ i. are (suc i) in
      let found = records_found most one.rest one.others
      (frame_bytes MAX_PAYLOAD bytes one.payload one.rest are_next one.frame) one.read in
      let text : gate ∷ bytes ≡ (1 ∷ frame_of one.payload ++ records_text one.others) ++ found.gate ∷ found.rest =
      (λ i. some.0 i ∷ frame_text MAX_PAYLOAD bytes one.payload one.rest are_next one.frame i)
      ∙ ap (λ (l : List ℕ). 1 ∷ frame_of one.payload ++ l) found.is
      ∙ sym (append_assoc (1 ∷ frame_of one.payload) (records_text one.others) (found.gate ∷ found.rest)) in
      record {
        gate = found.gate;
        rest = found.rest;
        is = text ∙ ap (λ (l : List (List ℕ)). records_text l ++ found.gate ∷ found.rest) (sym one.is);
        shut = found.shut;
        records = ap are_records one.is ∙ and_from (nat_le (length one.payload) MAX_PAYLOAD) (are_records one.others)
            (le-leb _ _ (frame_short MAX_PAYLOAD bytes one.payload one.rest one.frame)) found.records;
      }
]

-- eight bytes are a number of 64 bits
eight_fits : (bytes : List ℕ) → AreBytes bytes → eight_at bytes < 2 ^ 64
unfolding eight_at
eight_fits bytes are =
    let cells : AreBytes (take 8 bytes) = bytes_of_take 8 bytes are in
    omega (arith, cells 0, cells 1, cells 2, cells 3, cells 4, cells 5, cells 6, cells 7)

eight_text : (bytes : List ℕ) → AreBytes bytes → 8 ≤ length bytes → eight_bytes (eight_at bytes) ≡ take 8 bytes
unfolding eight_at eight_bytes
eight_text bytes are long = be_bytes_8 (take 8 bytes) (eight_at bytes) (omega (arith, length-take 8 bytes, long))
    (bytes_of_take 8 bytes are) refl

-- what is after an open head gate that was read as an area
record Behind (bytes : List ℕ) (area : Area) : Type 0 where
  snapshot : List ℕ
  tail : List ℕ
  payloads : List (List ℕ)
  frame : frame_at MAX_AREA (drop 8 bytes) ≡ Some (snapshot, tail)
  read : payloads_at (length tail) tail ≡ Some payloads
  is : record { generation = eight_at bytes; snapshot = snapshot; payloads = payloads } ≡ area

records_behind : (bytes snapshot tail : List ℕ) (area : Area) (payloads : Option (List (List ℕ)))
    → frame_at MAX_AREA (drop 8 bytes) ≡ Some (snapshot, tail) → payloads_at (length tail) tail ≡ payloads
    → area_with (eight_at bytes) snapshot payloads ≡ Some area → Behind bytes area
records_behind bytes snapshot tail area None frame read is = absurd (cc (is))
records_behind bytes snapshot tail area (Some payloads) frame read is =
    let whole : Area = record { generation = eight_at bytes; snapshot = snapshot; payloads = payloads } in
    let same : whole ≡ area = cc (is) in
    record { snapshot = snapshot; tail = tail; payloads = payloads; frame = frame; read = read; is = same }

frame_behind : (bytes : List ℕ) (area : Area) (frame : Option (List ℕ × List ℕ))
    → frame_at MAX_AREA (drop 8 bytes) ≡ frame → area_after (eight_at bytes) frame ≡ Some area → Behind bytes area
frame_behind bytes area None frame is = absurd (cc (is))
frame_behind bytes area (Some parts) frame is =
    records_behind bytes parts.0 parts.1 area (payloads_at (length parts.1) parts.1) frame refl is

-- A text that is found stands there.
behind_found : (bytes : List ℕ) (area : Area) → AreBytes bytes → 8 ≤ length bytes → length bytes < MAX_AREA
    → Behind bytes area → IsArea area (1 ∷ bytes)
behind_found bytes area are long short found =
    let whole : Area = record { generation = eight_at bytes; snapshot = found.snapshot; payloads = found.payloads } in
    let next : List ℕ = drop 8 bytes in
    let are_next : AreBytes next = bytes_of_drop 8 bytes are in
    let records = records_found (length found.tail) found.tail found.payloads
    (frame_bytes MAX_AREA next found.snapshot found.tail are_next found.frame) found.read in
    let number : List ℕ = eight_bytes (eight_at bytes) in
    let split : bytes ≡ number
    ++ (frame_of found.snapshot ++ (records_text found.payloads ++ records.gate ∷ records.rest)) =
    sym (take-append-drop 8 bytes)
    ∙ (λ i. sym (eight_text bytes are long) i ++ frame_text MAX_AREA next found.snapshot found.tail are_next
    found.frame i)
    ∙ ap (λ (l : List ℕ). number ++ (frame_of found.snapshot ++ l)) records.is in
    let text : 1 ∷ bytes ≡ area_text whole ++ records.gate ∷ records.rest =
    ap (λ (l : List ℕ). 1 ∷ l) (split ∙ simp append_assoc) in
    let ends : length (area_text whole) < length (1 ∷ bytes) =
    omega (arith, ap length text, length-append (area_text whole) (records.gate ∷ records.rest)) in
    subst (λ (a : Area). IsArea a (1 ∷ bytes)) found.is
    (reads whole records.gate records.rest (1 ∷ bytes) text records.shut (omega (arith, ends, short))
    (eight_fits bytes are) records.records)

pub sound_at : (text : List ℕ) (area : Area) → AreBytes text → length text ≤ MAX_AREA → area_at text ≡ Some area
    → IsArea area text
sound_at [] area are short is = absurd (cc (is))
sound_at (gate ∷ bytes) area are short is =
    let after : Option Area = area_after (eight_at bytes) (frame_at MAX_AREA (drop 8 bytes)) in
    let cut : Option Area = if nat_lt (length bytes) 8 then None else after in
    elim (cases_eq gate 1) [
      | inl open_ ↦ elim (cases_lt (length bytes) 8) [
        | inl less ↦
            let gate_test : (gate == 1) ≡ true = grind (arith, nat_tests, open_) in
            let test : nat_lt (length bytes) 8 ≡ true = grind (arith, nat_tests, less) in
            let none : Some area ≡ None = sym is ∙ ap (λ (b : Bool). if b then cut else None) gate_test
            ∙ ap (λ (b : Bool). if b then None else after) test in
            absurd (cc (none))
        | inr enough ↦
            let gate_test : (gate == 1) ≡ true = grind (arith, nat_tests, open_) in
            let test : nat_lt (length bytes) 8 ≡ false = grind (arith, nat_tests, enough) in
            let some : after ≡ Some area = sym (ap (λ (b : Bool). if b then cut else None) gate_test
            ∙ ap (λ (b : Bool). if b then None else after) test) ∙ is in
            let found = frame_behind bytes area (frame_at MAX_AREA (drop 8 bytes)) refl some in
            subst (λ (n : ℕ). IsArea area (n ∷ bytes)) (sym open_)
            (behind_found bytes area (λ i. are (suc i)) enough (omega (arith, short)) found)
      ]
      | inr shut ↦
          let gate_test : (gate == 1) ≡ false = grind (arith, nat_tests, shut) in
          let none : Some area ≡ None = sym is ∙ ap (λ (b : Bool). if b then cut else None) gate_test in
          absurd (cc (none))
    ]

-- Bytes that are read as an area read as it.
pub sound : (bytes : List ℕ) (area : Area) → AreBytes bytes → read_area bytes ≡ Some area → IsArea area bytes
unfolding read_area
sound bytes area are is =
    let cut : List ℕ = take MAX_AREA bytes in
    let there : IsArea area cut =
    sound_at cut area (bytes_of_take MAX_AREA bytes are) (omega (arith, length-take MAX_AREA bytes)) is in
    longer_reads area MAX_AREA bytes there

some_or_none : {A : Type 0} (o : Option A) → IsSome o → o ≡ None → ⊥
some_or_none None some none = cc (some)
some_or_none (Some value) some none = cc

absent_not : (bytes : List ℕ) → 2 ≤ length bytes → get_or bytes 0 0 ≡ 1 → IsAbsent bytes → ⊥
absent_not [] long opened absent = absurd (omega (arith, long))
absent_not (gate ∷ []) long opened absent = absurd (omega (arith, long))
absent_not (gate ∷ byte ∷ bytes) long opened absent = absent opened

-- No area in a long enough front: no area in the bytes.
pub front_missing : (text bytes : List ℕ) → IsFront text bytes → area_at text ≡ None → IsDamaged bytes
unfolding read_area
front_missing text bytes front none = (
  absent_not bytes front.long front.opened,
  λ area is. elim front.enough [
    | inl some ↦ some_or_none (area_at text) some none
    | inr all ↦
        let nothing : read_area bytes ≡ None = ap area_at all ∙ none in
        let something : read_area bytes ≡ Some area = complete area bytes is in
        cc (nothing, something)
  ],
)

-- an area has an open head gate and more after it
pub area_not_absent : NoAreaIsAbsent
area_not_absent area [] is absent = absurd (omega (arith, is.ends))
area_not_absent area (gate ∷ []) is absent = absurd (omega (arith, is.ends, length-area_text area))
area_not_absent area (gate ∷ byte ∷ bytes) is absent = absent (ap (λ (l : List ℕ). get_or l 0 0) is.text)

read_or_damaged : (bytes : List ℕ) (found : Option Area) → AreBytes bytes → (IsAbsent bytes → ⊥)
    → read_area bytes ≡ found → ((area : Area) × IsArea area bytes) ⊎ IsDamaged bytes
read_or_damaged bytes None are there is =
    inr (there, λ area reads_. let found : read_area bytes ≡ Some area = complete area bytes reads_ in cc (found, is))
read_or_damaged bytes (Some area) are there is = inl (area, sound bytes area are is)

-- any bytes have an answer
pub any_bytes : AnyBytesAnswer
any_bytes [] are = inl tt
any_bytes (gate ∷ []) are = inl tt
any_bytes (gate ∷ byte ∷ bytes) are = elim (cases_eq gate 1) [
  | inl open_ ↦ inr (read_or_damaged (gate ∷ byte ∷ bytes) (read_area (gate ∷ byte ∷ bytes)) are
      (λ absent. absent open_) refl)
  | inr shut ↦ inl shut
]
