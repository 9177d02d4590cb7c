-- What a crash leaves while records are appended.
use Rattle.std.proofs.Common.{◌≡◌, ◌≢◌, inl, inr, ℕ, ◌+◌, ◌<◌, ◌≤◌, true, List, [], ◌∷◌, ◌++◌, length, get_or, take}
use Rattle.std.proofs.Common.{drop, sym, ◌∙◌, ap, subst, arith, append_assoc, length-append}
use Rattle.std.proofs.lemmas.Bool.{cases_eq}
use Rattle.std.proofs.lemmas.List.{length-take, drop_at, take-take, take-append-le}
use Rattle.cue_disk.specs.Disk.{Torn, overwritten_bytes}
use Rattle.cue_disk.proofs.CrashLemmas.{overwritten_torn, overwritten_within, length-overwritten}
use Rattle.cue_log.specs.declared.area.TheConstants.{MAX_AREA}
use Rattle.cue_log.specs.Area.{Area, IsArea, area_text, records_text, group_text, are_records, with_payloads}
use Rattle.cue_log.specs.Log.{IsEither}
use Rattle.cue_log.proofs.TextLemmas.{split_at, reads, front_reads, area_text-append, are_records-append}
use Rattle.cue_log.proofs.TextLemmas.{length-records, length-group}

-- A text with one gate more, and records that were framed after it: the gate says whether they count.
module _ (area : Area) (payloads : List (List ℕ)) (bytes stored : List ℕ) (end : ℕ) (is : IsArea area bytes)
    (frame : 1 ∷ stored ≡ group_text payloads) (short : are_records payloads ≡ true)
    (ends : end ≡ length (area_text area)) (room : end + 1 + length stored ≤ MAX_AREA) where
  abbrev rest : List ℕ
  rest = drop (end + 1 + length stored) bytes

  -- the bytes once what is framed stands after the last gate
  abbrev pub behind_gate : List ℕ
  behind_gate = overwritten_bytes bytes (end + 1) stored

  front_long : length (take (end + 1) bytes) ≡ end + 1
  front_long = omega (arith, length-take (end + 1) bytes, is.ends, ends)

  text_first : take end behind_gate ≡ area_text area
  text_first =
      ap (λ (l : List ℕ). take end l) (append_assoc (take (end + 1) bytes) stored rest)
      ∙ take-append-le end (take (end + 1) bytes) (stored ++ rest) (omega (arith, front_long))
      ∙ take-take end (end + 1) bytes (omega arith)
      ∙ ap (λ (n : ℕ). take n bytes) ends ∙ is.text

  stored_next : drop (end + 1) behind_gate ≡ stored ++ rest
  stored_next =
      ap (λ (l : List ℕ). drop (end + 1) l) (append_assoc (take (end + 1) bytes) stored rest)
      ∙ drop_at (take (end + 1) bytes) (stored ++ rest) (end + 1) front_long

  pub length-behind_gate : end + 1 + length stored ≤ length behind_gate
  length-behind_gate = omega (arith, length-overwritten bytes stored (end + 1) (omega (arith, is.ends, ends)))

  -- an open gate counts the records
  opened : (image : List ℕ) → image ≡ area_text area ++ 1 ∷ (stored ++ rest)
      → IsArea (with_payloads area payloads) image
  opened image split =
      let joined : image ≡ area_text (with_payloads area payloads) ++ 0 ∷ rest =
      split
      ∙ ap (λ (l : List ℕ). area_text area ++ (l ++ rest)) frame
      ∙ (simp append_assoc)
      ∙ ap (λ (l : List ℕ). l ++ 0 ∷ rest) (sym (area_text-append area payloads)) in
      reads (with_payloads area payloads) 0 rest image joined (λ equal. absurd (cc (equal)))
      (omega (
        arith,
        ap length (area_text-append area payloads),
        length-append (area_text area) (records_text payloads),
        length-records payloads,
        ap length frame,
        length-group payloads,
        room,
        ends,
      ))
      is.generation
      (are_records-append area.payloads payloads is.records short)

  -- any other gate does not
  closed_at : (gate : ℕ) (image : List ℕ) → gate ≢ 1 → image ≡ area_text area ++ gate ∷ (stored ++ rest)
      → IsArea area image
  closed_at gate image closed split = reads area gate (stored ++ rest) image split closed is.fits is.generation
      is.records

  -- A torn gate leaves the area with the records or without.
  pub gate_torn : (image : List ℕ) → Torn end 1 behind_gate image → IsEither area (with_payloads area payloads) image
  gate_torn image torn =
      let long : end < length image = omega (arith, torn.no_shorter, length-behind_gate) in
      let gate : ℕ = get_or image end 0 in
      let split : image ≡ area_text area ++ gate ∷ (stored ++ rest) =
      split_at image end long ∙ (λ i. (torn.before ∙ text_first) i ++ gate ∷ (torn.after ∙ stored_next) i) in
      elim (cases_eq gate 1) [
        | inl open_ ↦ inr (opened image (split ∙ ap (λ (n : ℕ). area_text area ++ n ∷ (stored ++ rest)) open_))
        | inr closed ↦ inl (closed_at gate image closed split)
      ]

  -- what is written after the last gate leaves the area
  pub body_torn : (image : List ℕ) → Torn (end + 1) (length stored) bytes image → IsArea area image
  body_torn image torn =
      front_reads area bytes image is
      (subst (λ (n : ℕ). take (n + 1) image ≡ take (n + 1) bytes) ends torn.before)

  -- the gate's write done
  pub gate_written : IsArea (with_payloads area payloads) (overwritten_bytes behind_gate end (1 ∷ []))
  gate_written =
      let image : List ℕ = overwritten_bytes behind_gate end (1 ∷ []) in
      let torn : Torn end 1 behind_gate image =
      overwritten_torn behind_gate (1 ∷ []) end 1 (omega (arith, length-behind_gate)) (omega arith) in
      let long : end < length image = omega (arith, torn.no_shorter, length-behind_gate) in
      let one : get_or image end 0 ≡ 1 = ap (λ (n : ℕ). get_or image n 0) (omega arith)
      ∙ overwritten_within behind_gate (1 ∷ []) end 0 (omega (arith, length-behind_gate)) (omega arith) in
      opened image (split_at image end long
      ∙ (λ i. (torn.before ∙ text_first) i ++ one i ∷ (torn.after ∙ stored_next) i))
