-- Records that are framed to be appended: their payloads, and one more.
use Rattle.std.proofs.Common.{◌≡◌, ℕ, ◌+◌, ◌-◌, ◌<◌, true, List, [], ◌∷◌, ◌++◌, length, take, drop, slice_set, refl}
use Rattle.std.proofs.Common.{sym, ◌∙◌, ap, subst, arith, append_assoc, length-append, length-drop}
use Rattle.std.proofs.lemmas.Bool.Decides.{nat_tests}
use Rattle.std.proofs.lemmas.List.{append-nil, set_at, take_all}
use Rattle.cue_log.specs.Area.{records_text, group_text, room_of, are_records, frame_of}
use Rattle.cue_log.specs.Reading.{payloads_in, or_none}
use Rattle.cue_log.specs.Record.{IsFramed, AreFramed, IsGroup, payload_in}
use Rattle.cue_log.proofs.CompleteLemmas.{payloads_read, length-records_text}
use Rattle.cue_log.proofs.TextLemmas.{records_text-append, are_records-append, length-group}

-- The payloads of framed records are read back.
pub payloads_back : (payloads : List (List ℕ)) → are_records payloads ≡ true
    → payloads_in (group_text payloads) ≡ payloads
payloads_back payloads short =
    ap or_none
    (payloads_read payloads (length (group_text payloads)) 0 []
    (omega (arith, length-append (records_text payloads) (0 ∷ []), length-records_text payloads))
    (λ equal. absurd (cc (equal))) short)

-- bytes that are such records
pub framed_as : (bytes : List ℕ) (payloads : List (List ℕ)) → bytes ≡ group_text payloads → are_records payloads ≡ true
    → AreFramed bytes × (payloads_in bytes ≡ payloads)
framed_as bytes payloads is short =
    let same : payloads_in bytes ≡ payloads = ap payloads_in is ∙ payloads_back payloads short in
    (record { text = is ∙ ap group_text (sym same); short = ap are_records same ∙ short }, same)

-- one record
pub one_framed : (bytes : List ℕ) → IsFramed bytes → AreFramed bytes × (payloads_in bytes ≡ payload_in bytes ∷ [])
one_framed bytes frame =
    let payload : List ℕ = payload_in bytes in
    framed_as bytes (payload ∷ []) (frame.text
    ∙ ap (λ (l : List ℕ). 1 ∷ (l ++ 0 ∷ [])) (sym (append-nil (frame_of payload))))
    (grind (arith, nat_tests, frame.short))

-- the same where it is read as other bytes
pub one_read : (bytes read : List ℕ) → read ≡ bytes → IsFramed bytes
    → AreFramed read × (payloads_in read ≡ payload_in bytes ∷ [])
one_read bytes read same frame = subst (λ (l : List ℕ). AreFramed l × (payloads_in l ≡ payload_in bytes ∷ []))
    (sym same) (one_framed bytes frame)

-- how long framed records are
pub length-framed_group : (text : List ℕ) (count : ℕ) → IsGroup text count
    → length text ≡ room_of (payloads_in text) + 1
length-framed_group text count group = ap length group.framed.text ∙ length-group (payloads_in text)

-- There are fewer records than bytes.
pub few_framed : (bytes : List ℕ) (count : ℕ) → IsGroup bytes count → count < length bytes
few_framed bytes count group =
    omega (
      arith,
      group.counted,
      ap length group.framed.text,
      length-append (records_text (payloads_in bytes)) (0 ∷ []),
      length-records_text (payloads_in bytes),
    )

-- One record more: what follows its gate is put after the last gate, which is opened.
module _ (old text payload : List ℕ) (count : ℕ) (group : IsGroup old count) (added : AreFramed text)
    (one : payloads_in text ≡ payload ∷ []) (grown : List ℕ) (len : ℕ)
    (grows : grown ≡ old ++ take (length text - 1) (drop 1 text)) (long : len ≡ length old) where
  abbrev before : List (List ℕ)
  before = payloads_in old

  abbrev after : List (List ℕ)
  after = before ++ payload ∷ []

  abbrev new : List ℕ
  new = slice_set grown (len - 1) 1

  pushed_text : new ≡ group_text after
  pushed_text =
      let records : List ℕ = records_text before in
      let behind : List ℕ = drop 1 (group_text (payload ∷ [])) in
      let whole : grown ≡ records ++ 0 ∷ behind =
      grows
      ∙ ap (λ (l : List ℕ). old ++ l) (take_all (length text - 1) (drop 1 text) (omega (arith, length-drop 1 text)))
      ∙ (λ i. group.framed.text i ++ drop 1 ((added.text ∙ ap group_text one) i))
      ∙ append_assoc records (0 ∷ []) behind in
      let last : len - 1 ≡ length records =
      omega (arith, long, ap length group.framed.text, length-append records (0 ∷ [])) in
      (λ i. slice_set (whole i) (last i) 1)
      ∙ set_at records 0 behind 1 (length records) refl
      ∙ sym (append_assoc records (records_text (payload ∷ [])) (0 ∷ []))
      ∙ ap (λ (l : List ℕ). l ++ 0 ∷ []) (sym (records_text-append before (payload ∷ [])))

  pushed : AreFramed new × (payloads_in new ≡ after)
  pushed = framed_as new after pushed_text
      (are_records-append before (payload ∷ []) group.framed.short (ap are_records (sym one) ∙ added.short))

  pub pushed_payloads : payloads_in new ≡ after
  pushed_payloads = pushed.1

  pub pushed_group : IsGroup new (count + 1)
  pushed_group = record {
    framed = pushed.0;
    counted =
        omega (arith, group.counted, ap length pushed.1, length-append before (payload ∷ []));
  }

-- The gate of the first record is open, where there is one.
starts_open : (payloads : List (List ℕ)) (text : List ℕ) → text ≡ group_text payloads → 1 < length text
    → 1 ∷ drop 1 text ≡ text
starts_open [] text is some = absurd (omega (arith, ap length is, some))
starts_open (payload ∷ payloads) text is some = ap (λ (l : List ℕ). 1 ∷ drop 1 l) is ∙ sym is

-- what is written after that gate
abbrev pub behind_first : List ℕ → List ℕ
behind_first text = take (length text - 1) (drop 1 text)

pub first_open : (text : List ℕ) → AreFramed text → 1 < length text → 1 ∷ behind_first text ≡ text
first_open text frame_of some =
    ap (λ (l : List ℕ). 1 ∷ l) (take_all (length text - 1) (drop 1 text) (omega (arith, length-drop 1 text)))
    ∙ starts_open (payloads_in text) text frame_of.text some

pub length-behind_first : (text : List ℕ) → AreFramed text → 1 < length text
    → 1 + length (behind_first text) ≡ length text
length-behind_first text frame_of some = omega (arith, ap length (first_open text frame_of some))
