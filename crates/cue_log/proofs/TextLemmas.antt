-- Area texts as lists: where they end, and which bytes read as one.
use Rattle.std.proofs.Common.{◌≡◌, ◌≢◌, ℕ, ◌+◌, ◌<◌, ◌^◌, true, nat_le, List, [], ◌∷◌, ◌++◌, length, get_or, take, drop}
use Rattle.std.proofs.Common.{refl, sym, ◌∙◌, ap, arith, append_assoc, length-append, take-append-drop}
use Rattle.std.proofs.lemmas.Bool.{and_parts, and_from}
use Rattle.std.proofs.lemmas.List.Sums.{sum_by-cons}
use Rattle.std.proofs.lemmas.List.{length-take, take_at, take-take, get_or_at, get_or-take, drop_more}
use Rattle.cue_log.specs.declared.area.TheConstants.{MAX_AREA, MAX_PAYLOAD, HEAD_LEN}
use Rattle.cue_log.specs.Area.{Area, IsArea, area_text, records_text, are_records, frame_of, with_payloads, group_text}
use Rattle.cue_log.specs.Area.{room_of, body_text, four_bytes, eight_bytes}

-- a list in front of an index, at it and after it
pub split_at : (l : List ℕ) (n : ℕ) → n < length l → l ≡ take n l ++ get_or l n 0 ∷ drop (n + 1) l
split_at l n within = sym (take-append-drop n l) ∙ ap (λ (r : List ℕ). take n l ++ r) (drop_more l n 0 within)

-- Bytes in which a gate that is not open stands after the text read as the area.
pub reads : (area : Area) (gate : ℕ) (rest bytes : List ℕ) → bytes ≡ area_text area ++ gate ∷ rest → gate ≢ 1
    → length (area_text area) < MAX_AREA → area.generation < 2 ^ 64 → are_records area.payloads ≡ true
    → IsArea area bytes
reads area gate rest bytes is shut fits generation records = record {
  text = ap (λ (l : List ℕ). take (length (area_text area)) l) is
      ∙ take_at (area_text area) (gate ∷ rest) (length (area_text area)) refl;
  ends = omega (arith, ap length is, length-append (area_text area) (gate ∷ rest));
  closed = λ opened. shut (sym (get_or_at (area_text area) gate rest 0 (length (area_text area)) refl)
      ∙ sym (ap (λ (l : List ℕ). get_or l (length (area_text area)) 0) is) ∙ opened);
  fits = fits;
  generation = generation;
  records = records;
}

-- Bytes that agree with an area up to its last gate read as that area.
pub front_reads : (area : Area) (bytes other : List ℕ) → IsArea area bytes
    → take (length (area_text area) + 1) other ≡ take (length (area_text area) + 1) bytes → IsArea area other
front_reads area bytes other is same = let end = length (area_text area) in record {
  text = sym (take-take end (end + 1) other (omega arith)) ∙ ap (λ (l : List ℕ). take end l) same
      ∙ take-take end (end + 1) bytes (omega arith) ∙ is.text;
  ends = omega (arith, ap length same, length-take (end + 1) other, length-take (end + 1) bytes, is.ends);
  closed = λ opened. is.closed (sym (get_or-take (end + 1) bytes end 0 (omega arith))
      ∙ sym (ap (λ (l : List ℕ). get_or l end 0) same) ∙ get_or-take (end + 1) other end 0 (omega arith) ∙ opened);
  fits = is.fits;
  generation = is.generation;
  records = is.records;
}

-- records more in the text
pub records_text-append : (payloads more : List (List ℕ))
    → records_text (payloads ++ more) ≡ records_text payloads ++ records_text more
records_text-append [] more = refl
records_text-append (first ∷ payloads) more =
    ap (λ (l : List ℕ). 1 ∷ frame_of first ++ l) (records_text-append payloads more)
    ∙ sym (append_assoc (1 ∷ frame_of first) (records_text payloads) (records_text more))

pub area_text-append : (area : Area) (more : List (List ℕ))
    → area_text (with_payloads area more) ≡ area_text area ++ records_text more
area_text-append area more =
    let head : List ℕ = 1 ∷ body_text area.generation area.snapshot in
    ap (λ (l : List ℕ). head ++ l) (records_text-append area.payloads more)
    ∙ sym (append_assoc head (records_text area.payloads) (records_text more))

-- the length of a framed text
pub length-four_bytes : (n : ℕ) → length (four_bytes n) ≡ 4
unfolding four_bytes
length-four_bytes n = refl

pub length-eight_bytes : (n : ℕ) → length (eight_bytes n) ≡ 8
unfolding eight_bytes
length-eight_bytes n = refl

pub length-framed : (payload : List ℕ) → length (frame_of payload) ≡ 4 + length payload
length-framed payload = omega (
  arith,
  length-append (four_bytes (length payload)) payload,
  length-four_bytes
      (length payload),
)

-- how many bytes records take
pub length-records : (payloads : List (List ℕ)) → length (records_text payloads) ≡ room_of payloads
length-records [] = refl
length-records (payload ∷ payloads) =
    omega (
      arith,
      length-append (1 ∷ frame_of payload) (records_text payloads),
      length-framed payload,
      length-records
          payloads,
      sum_by-cons length payload payloads,
    )

-- the same with the closed gate after them
pub length-group : (payloads : List (List ℕ)) → length (group_text payloads) ≡ room_of payloads + 1
length-group payloads = omega (arith, length-append (records_text payloads) (0 ∷ []), length-records payloads)

-- short payloads more
pub are_records-append : (payloads more : List (List ℕ)) → are_records payloads ≡ true → are_records more ≡ true
    → are_records (payloads ++ more) ≡ true
are_records-append [] more records short = short
are_records-append (first ∷ payloads) more records short =
    let parts = and_parts (nat_le (length first) MAX_PAYLOAD) (are_records payloads) records in
    and_from (nat_le (length first) MAX_PAYLOAD) (are_records (payloads ++ more)) parts.0
    (are_records-append payloads more parts.1 short)

-- where the last gate stands
pub length-area_text : (area : Area)
    → length (area_text area) ≡ HEAD_LEN + length area.snapshot + length (records_text area.payloads)
length-area_text area =
    omega (
      arith,
      length-append (1 ∷ body_text area.generation area.snapshot) (records_text area.payloads),
      length-append (eight_bytes area.generation) (frame_of area.snapshot),
      length-framed area.snapshot,
      length-eight_bytes area.generation,
    )

-- What stands after the front of some bytes does not matter, where an area stands in front.
pub longer_reads : (area : Area) (n : ℕ) (bytes : List ℕ) → IsArea area (take n bytes) → IsArea area bytes
longer_reads area n bytes is =
    front_reads area (take n bytes) bytes is
    (sym (take-take (length (area_text area) + 1) n bytes (omega (arith, is.ends, length-take n bytes))))
