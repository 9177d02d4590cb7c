-- How long the text of a state can be.
use Rattle.std.proofs.Common.{◌≡◌, ℕ, suc, ◌+◌, ◌*◌, ◌≤◌, Bool, ◌&&◌, List, [], ◌∷◌, ◌++◌, length, Option, Some, None}
use Rattle.std.proofs.Common.{IsTrue, nat_le, refl, ap, arith, length-append}
use Rattle.std.specs.Prelude.{IfSome}
use Rattle.std.specs.List.{list_all, flat_map}
use Rattle.std.specs.Map.{keys_of}
use Rattle.std.proofs.Math.Nat.{suc-mul, mul-le-mul_right}
use Rattle.std.proofs.lemmas.Bool.{leb-true}
use Rattle.std.proofs.lemmas.List.{length-map}
use Rattle.cue_show.specs.Bytes.{are_bytes}
use Rattle.cue_show.specs.DeviceNumber.{is_device}
use Rattle.cue_show.specs.Devices.{distinct}
use Rattle.cue_show.specs.Distinct.{are_distinct}
use Rattle.cue_show.specs.Number.{is_cue_number, is_run, pieces, same_text}
use Rattle.cue_show.specs.Parts.{is_part, are_parts}
use Rattle.cue_show.specs.Show.{Cues, ShowLists, parts_of, are_known, is_place_of, is_entry, is_table, is_cue_of}
use Rattle.cue_show.specs.Show.{is_stack_of, is_show}
use Rattle.cue_show.specs.declared.limits.TheConstants.{MAX_CUE_BYTES, MAX_PARTS, MAX_PART_BYTES, MAX_DEVICES, MAX_CUES}
use Rattle.cue_show.specs.declared.part.Part.{Part}
use Rattle.cue_show.proofs.ChangeLemmas.{is_cue_of-parts_of}
use Rattle.cue_exchange.specs.declared.attempt.Attempt.{Attempt}
use Rattle.cue_exchange.specs.declared.limits.TheConstants.{MAX_LIVE}
use Rattle.cue_core.specs.declared.event.Ended.{Ended}
use Rattle.cue_exchange.specs.declared.attempt.DeviceAnswer.{DeviceAnswer}
use Rattle.cue_core.specs.State.{ShowState, is_of_part, are_of_parts, is_at_cue, is_state}
use Rattle.cue_core.proofs.lists.ConditionLemmas.{both}
use Rattle.cue_core.proofs.rules.RuleLemmas.{rules_of}
use Rattle.cue_records.specs.Fields.{byte_text, short_text, number_text, time_text, text_text, flag_text, part_text}
use Rattle.cue_records.specs.Fields.{parts_text, entry_text, new_cue_text}
use Rattle.cue_exchange.specs.Outcomes.{outcome_number}
use Rattle.cue_records.specs.State.{table_text, stack_text, place_text, show_text, ended_text, stage_number}
use Rattle.cue_records.specs.State.{answer_number, answers_text, attempt_text, live_text, text_in}
use Rattle.cue_records.specs.declared.limits.TheConstants.{MAX_STATE_BYTES}
use Rattle.cue_records.specs.declared.parts_form.PartsForm.{PartsForm}
use Rattle.cue_records.specs.declared.parts_form.PartsForm.TheVariants.{Plain, Flagged}
use Rattle.cue_records.specs.Laws.{StateTextsAreBounded}
use Rattle.cue_records.proofs.AttemptLemmas.{parts_found}
use Rattle.cue_records.proofs.FieldLemmas.{parts_rules}
use Rattle.cue_records.proofs.FittingLemmas.{cue_fits, attempt_cue_fits}
use Rattle.cue_records.proofs.RangeLemmas.{live_short}

-- ---- lists of texts

-- each is no longer than the most
flat_map-short : {A : Type 0} (text : A → List ℕ) (fits : A → Bool) (most : ℕ)
    → ((x : A) → IsTrue (fits x) → length (text x) ≤ most) → (xs : List A) → IsTrue (list_all fits xs)
    → length (flat_map text xs) ≤ length xs * most
flat_map-short text fits most short [] h = omega arith
flat_map-short text fits most short (x ∷ xs) h =
    let p = both (fits x) (list_all fits xs) h in
    omega (
      arith,
      length-append (text x) (flat_map text xs),
      short x p.0,
      flat_map-short text fits most short xs p.1,
      suc-mul (length xs) most,
    )

-- and there are only so many
counted-short : {A : Type 0} (text : A → List ℕ) (fits : A → Bool) (most count : ℕ)
    → ((x : A) → IsTrue (fits x) → length (text x) ≤ most) → (xs : List A) → length xs ≤ count
    → IsTrue (list_all fits xs) → length (flat_map text xs) ≤ count * most
counted-short text fits most count short xs few h =
    omega (arith, flat_map-short text fits most short xs h, mul-le-mul_right {m = length xs} {n = count} most few)

-- ---- numbers and cue numbers

two_long : (n : ℕ) → length (short_text n) ≡ 2
two_long n = refl

four_long : (n : ℕ) → length (number_text n) ≡ 4
four_long n = refl

eight_long : (n : ℕ) → length (time_text n) ≡ 8
eight_long n = refl

number_short : (c : List ℕ) → IsTrue (is_cue_number c) → length c ≤ MAX_CUE_BYTES
number_short c h = leb-true (length c) MAX_CUE_BYTES
    (both (nat_le (length c) MAX_CUE_BYTES) (list_all is_run (pieces c)) h).0

-- ---- the show

abbrev longest_part : ℕ
longest_part = 3 + MAX_PART_BYTES

abbrev longest_cue : ℕ
longest_cue = 2 + MAX_CUE_BYTES + MAX_PARTS * longest_part

flag_short : (form : PartsForm) (optional : Bool) → length (flag_text form optional) ≤ 1
flag_short Plain optional = omega arith
flag_short Flagged optional = omega arith

part_short : (form : PartsForm) (p : Part) → IsTrue (is_part p) → length (part_text form p) ≤ longest_part
part_short form p h =
    let q = both (is_device p.device) (nat_le (length p.bytes) MAX_PART_BYTES && are_bytes p.bytes) h in
    let few : length p.bytes ≤ MAX_PART_BYTES =
    leb-true (length p.bytes) MAX_PART_BYTES (both (nat_le (length p.bytes) MAX_PART_BYTES) (are_bytes p.bytes)
    q.1).0 in
    omega (arith, few, length-append (flag_text form p.optional) (text_text p.bytes), flag_short form p.optional)

-- few parts, each short
record PartsAreShort (form : PartsForm) (parts : List Part) : Type 0 where
  few : length parts ≤ MAX_PARTS
  short : length (flat_map (part_text form) parts) ≤ MAX_PARTS * longest_part

parts_short : (form : PartsForm) (parts : List Part) → IsTrue (are_parts parts) → PartsAreShort form parts
parts_short form parts h =
    let r = parts_rules parts h in
    let few : length parts ≤ MAX_PARTS = leb-true (length parts) MAX_PARTS r.few in
    record {
      few = few;
      short = counted-short (part_text form) is_part longest_part MAX_PARTS (part_short form) parts
          few r.each;
    }

new_cue_short : (form : PartsForm) (s : ShowLists) (e : List ℕ × List Part) → IsTrue (is_cue_of s e)
    → length (new_cue_text form e) ≤ longest_cue
new_cue_short form s e h =
    let k = both (is_cue_number e.0) (are_parts e.1 && are_known s e.1) h in
    let parts = parts_short form e.1 (both (are_parts e.1) (are_known s e.1) k.1).0 in
    omega (arith, length-append (text_text e.0) (parts_text form e.1), number_short e.0 k.0, parts.short)

entry_long : (e : ℕ × ℕ) → IsTrue (is_entry e) → length (entry_text e) ≤ 3
entry_long e h = omega (arith, length-append (byte_text e.0) (short_text e.1), two_long e.1)

table_short : (devices : List (ℕ × ℕ)) → IsTrue (is_table devices) → length (table_text devices) ≤ 1 + MAX_DEVICES * 3
table_short devices h =
    let p = both (nat_le (length devices) MAX_DEVICES) (distinct (keys_of devices) && list_all is_entry devices) h in
    let each = (both (distinct (keys_of devices)) (list_all is_entry devices) p.1).1 in
    let all = counted-short entry_text is_entry 3 MAX_DEVICES entry_long devices
    (leb-true (length devices) MAX_DEVICES p.0) each in
    omega (arith, length-append (byte_text (length devices)) (flat_map entry_text devices), all)

stack_short : (form : PartsForm) (s : ShowLists) (cues : Cues) → IsTrue (is_stack_of s cues)
    → length (stack_text form cues) ≤ 2 + MAX_CUES * longest_cue
stack_short form s cues h =
    let p = both (nat_le (length cues) MAX_CUES) (are_distinct same_text (keys_of cues) && list_all (is_cue_of s) cues)
    h in
    let each = (both (are_distinct same_text (keys_of cues)) (list_all (is_cue_of s) cues) p.1).1 in
    let all = counted-short (new_cue_text form) (is_cue_of s) longest_cue MAX_CUES (new_cue_short form s) cues
    (leb-true (length cues) MAX_CUES p.0) each in
    omega (
      arith,
      length-append (short_text (length cues)) (flat_map (new_cue_text form) cues),
      two_long (length cues),
      all,
    )

place_short : (s : ShowLists) (place : Option (List ℕ)) → IsTrue (is_show s) → IsTrue (is_place_of s place)
    → length (place_text place) ≤ 1 + MAX_CUE_BYTES
place_short s None rules h = omega arith
place_short s (Some c) rules h = omega (arith, number_short c (cue_fits s c rules h))

show_short : (form : PartsForm) (s : ShowLists) → IsTrue (is_show s)
    → length (show_text form s) ≤ (1 + MAX_DEVICES * 3) + (2 + MAX_CUES * longest_cue) + (1 + MAX_CUE_BYTES)
show_short form s h =
    let p = both (is_table s.devices) (is_stack_of s s.cues && is_place_of s s.place) h in
    let q = both (is_stack_of s s.cues) (is_place_of s s.place) p.1 in
    omega (
      arith,
      length-append (table_text s.devices) (stack_text form s.cues ++ place_text s.place),
      length-append (stack_text form s.cues) (place_text s.place),
      table_short s.devices p.0,
      stack_short form s s.cues q.0,
      place_short s s.place h q.1,
    )

-- ---- the attempts

abbrev longest_attempt : ℕ
longest_attempt = 14 + MAX_CUE_BYTES + MAX_PARTS

-- as many answers as there are parts
of_parts-length : (parts : List Part) (answers : List DeviceAnswer) → IsTrue (are_of_parts parts answers)
    → length answers ≡ length parts
of_parts-length [] [] h = refl
of_parts-length [] (x ∷ xs) h = absurd cc
of_parts-length (p ∷ ps) [] h = absurd cc
of_parts-length (p ∷ ps) (x ∷ xs) h = ap suc (of_parts-length ps xs (both (is_of_part p x) (are_of_parts ps xs) h).1)

answers_few : (show : ShowLists) (a : Attempt) → IsTrue (is_show show) → IsTrue (is_at_cue show a)
    → length a.answers ≤ MAX_PARTS
answers_few show a rules at =
    let found = parts_found show a at in
    let same : length a.answers ≡ length found.0 = of_parts-length found.0 a.answers found.2 in
    let few = by (parts_of show a.cue) found.0 found.1 (is_cue_of-parts_of show a.cue rules) in
    omega (arith, same, few)
  where
    by : (o : Option (List Part)) (ps : List Part) → o ≡ Some ps
        → IfSome o (λ parts. IsTrue (is_cue_of show (a.cue, parts))) → length ps ≤ MAX_PARTS
    by None ps e cue = absurd (cc e)
    by (Some parts) ps e cue =
        let k = both (is_cue_number a.cue) (are_parts parts && are_known show parts) cue in
        let same : parts ≡ ps = cc e in
        omega (
          arith,
          ap length same,
          leb-true (length parts) MAX_PARTS
              (parts_rules parts (both (are_parts parts) (are_known show parts) k.1).0).few,
        )

attempt_short : (show : ShowLists) → IsTrue (is_show show) → (a : Attempt) → IsTrue (is_at_cue show a)
    → length (attempt_text a) ≤ longest_attempt
attempt_short show rules a at =
    let last : List ℕ = byte_text (stage_number a.stage) ++ answers_text a.answers in
    let third : List ℕ = time_text a.deadline ++ last in
    let second : List ℕ = text_text a.cue ++ third in
    omega (
      arith,
      length-append (number_text a.seq) second,
      four_long a.seq,
      length-append (text_text a.cue) third,
      length-append (time_text a.deadline) last,
      eight_long a.deadline,
      length-append (byte_text (stage_number a.stage)) (answers_text a.answers),
      length-map a.answers (λ x. answer_number x.answer),
      number_short a.cue (attempt_cue_fits show a rules at),
      answers_few show a rules at,
    )

live_text_short : (show : ShowLists) (live : List Attempt) → IsTrue (is_show show) → length live ≤ MAX_LIVE
    → IsTrue (list_all (is_at_cue show) live) → length (live_text live) ≤ 1 + MAX_LIVE * longest_attempt
live_text_short show live rules few at =
    omega (
      arith,
      length-append (byte_text (length live)) (flat_map attempt_text live),
      counted-short attempt_text
          (is_at_cue show) longest_attempt MAX_LIVE (attempt_short show rules) live few at,
    )

ended_long : (ended : Option Ended) → length (ended_text ended) ≡ 5
ended_long None = refl
ended_long (Some e) = omega (
  arith,
  length-append (number_text e.seq) (byte_text (outcome_number e.outcome)),
  four_long
      e.seq,
)

-- ---- the state

text_short : (form : PartsForm) (s : ShowState) → IsTrue (is_state s) → length (text_in form s) ≤ MAX_STATE_BYTES
text_short form s h =
    let r = rules_of s h in
    let last : List ℕ = ended_text s.ended ++ live_text s.live in
    let behind : List ℕ = number_text s.last_seq ++ last in
    omega (
      arith,
      length-append (show_text form s.show) behind,
      length-append (number_text s.last_seq) last,
      length-append (ended_text s.ended) (live_text s.live),
      show_short form s.show r.show,
      four_long s.last_seq,
      ended_long s.ended,
      live_text_short s.show s.live r.show (live_short s.live r.live) r.at,
    )

pub state_short : StateTextsAreBounded
state_short bytes s h t = rw t.is (text_short t.form s h)
