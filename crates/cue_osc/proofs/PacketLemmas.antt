-- A packet that is read is spelled so, and a packet that is spelled so is read.
use Rattle.std.proofs.Common.{◌≡◌, ℕ, zero, suc, ◌+◌, ◌%◌, ◌^◌, ◌<◌, ◌≤◌, true, false, cond, not, ◌&&◌, eqb, ltb, leb}
use Rattle.std.proofs.Common.{List, ◌++◌, length, drop, Result, Ok, Err, refl, sym, ap, subst, ◌∙◌, arith, inl, inr}
use Rattle.std.specs.Int.{w32, w64, to_be_bytes}
use Rattle.std.proofs.lemmas.Bool.{and_parts, and_from, not-false, cases_Bool, cases_eq, eqb-true, eq-eqb, ltb-true}
use Rattle.std.proofs.lemmas.Bool.{ltb-false, lt-ltb, le-ltb, leb-true, le-leb}
use Rattle.std.proofs.lemmas.Bool.Decides.{Decides-eqb}
use Rattle.std.proofs.lemmas.List.{nil_from_length, take-append-drop, take_at, drop_at, length-append, length-take}
use Rattle.std.proofs.lemmas.Slice.Eq.{starts_is}
use Rattle.cue_osc.specs.declared.fault.Fault.{Fault}
use Rattle.cue_osc.specs.declared.fault.Fault.TheVariants.{TooLong, NotMultiple}
use Rattle.cue_osc.specs.Content.{Content, message, discarded, bundle, Contents, nothing, element}
use Rattle.cue_osc.specs.Spelling.{bundle_head, IsSize, IsPacket, AreElements, Spells}
use Rattle.cue_osc.specs.Reading.{◌>>=◌, number_at, is_size, element_at, elements_by, is_message_start, is_bundle_start}
use Rattle.cue_osc.specs.Reading.{bundle_by, packet_at, datagram_at}
use Rattle.cue_osc.proofs.LoopLemmas.{bind_ok, element_is, element_shorter, elements_from, elements_some, elements_none}
use Rattle.cue_osc.proofs.StartLemmas.{message_start, no_start, too_deep, bundle_start}
use Rattle.cue_osc.proofs.FieldLemmas.{IsBytes, IsBytes-rest, IsBytes-take, IsBytes-drop, ok_is, else_ok, wide32}
use Rattle.cue_osc.proofs.FieldLemmas.{wide64, number_takes, number_again}
use Rattle.cue_osc.proofs.PartLemmas.{message_takes, message_again, discarded_again}
use Rattle.cue_osc.specs.declared.limits.TheConstants.{MAX_LEN}

-- ---- elements

-- an element was taken from the front
pub record TakesElement (bytes front rest : List ℕ) : Type 0 where
  pub size : IsSize (length front)
  pub parts : bytes ≡ to_be_bytes w32 (length front) ++ (front ++ rest)
  pub front_fits : IsBytes front
  pub rest_fits : IsBytes rest

size_from_test : (n left : ℕ) → is_size n left ≡ true → IsSize n × (n ≤ left)
size_from_test n left h =
    let a = and_parts (ltb 0 n) (ltb n (2 ^ 31) && (eqb (n % 4) 0 && leb n left)) h in
    let b = and_parts (ltb n (2 ^ 31)) (eqb (n % 4) 0 && leb n left) a.1 in
    let c = and_parts (eqb (n % 4) 0) (leb n left) b.1 in
    ((ltb-true 0 n a.0, ltb-true n (2 ^ 31) b.0, eqb-true (n % 4) 0 c.0), leb-true n left c.1)

test_from_size : (n left : ℕ) → IsSize n → n ≤ left → is_size n left ≡ true
test_from_size n left h k =
    and_from (ltb 0 n) (ltb n (2 ^ 31) && (eqb (n % 4) 0 && leb n left)) (lt-ltb 0 n h.0)
    (and_from (ltb n (2 ^ 31)) (eqb (n % 4) 0 && leb n left) (lt-ltb n (2 ^ 31) h.1)
    (and_from (eqb (n % 4) 0) (leb n left) (eq-eqb (n % 4) 0 h.2) (le-leb n left k)))

pub element_takes : (bytes : List ℕ) (x : List ℕ × List ℕ) → IsBytes bytes → element_at bytes ≡ Ok x
    → TakesElement bytes x.0 x.1
element_takes bytes x fits e =
    let p = element_is bytes x e in
    let n = p.0.0 in
    let behind = p.0.1 in
    let t = number_takes w32 (2 ^ 32) wide32 bytes n behind fits p.1 in
    let s = size_from_test n (length behind) p.2 in
    let len : length x.0 ≡ n = ap length (sym p.3) ∙ omega (arith, length-take n behind, s.1) in
    let parts : behind ≡ x.0 ++ x.1 = sym (take-append-drop n behind) ∙ ap (λ (f : List ℕ). f ++ drop n behind) p.3
    ∙ ap (λ (r : List ℕ). x.0 ++ r) p.4 in
    let behind_fits : IsBytes behind = IsBytes-rest bytes (to_be_bytes w32 n) behind t.0 fits in
    record {
      size = subst IsSize (sym len) s.0;
      parts = t.0 ∙ ap (λ (r : List ℕ). to_be_bytes w32 n ++ r) parts
          ∙ ap (λ (m : ℕ). to_be_bytes w32 m ++ (x.0 ++ x.1)) (sym len);
      front_fits = subst IsBytes p.3 (IsBytes-take n behind behind_fits);
      rest_fits = subst IsBytes p.4 (IsBytes-drop n behind behind_fits);
    }

pub element_again : (front rest : List ℕ) → IsSize (length front)
    → element_at (to_be_bytes w32 (length front) ++ (front ++ rest)) ≡ Ok (front, rest)
unfolding element_at
element_again front rest h =
    let n = length front in
    let small : n < 2 ^ 31 = h.1 in
    let read = number_again w32 (2 ^ 32) wide32 n (front ++ rest) (omega arith) in
    let fits = test_from_size n (length (front ++ rest)) h (omega (arith, length-append front rest)) in
    rw (read, fits, take_at front rest n refl, drop_at front rest n refl) refl

abbrev all_done : Contents → Result Contents Fault
all_done cs = Ok cs

-- what reading gives is spelled so, at one depth
abbrev ReadsSpelled : ℕ → Type 0
ReadsSpelled d = (bytes : List ℕ) (c : Content) → IsBytes bytes → packet_at d bytes ≡ Ok c → IsPacket d bytes c

elements_take : (d : ℕ) → ReadsSpelled d → (n : ℕ) (bytes : List ℕ) (cs : Contents) → length bytes ≤ n → IsBytes bytes
    → elements_by (packet_at d) n bytes ≡ Ok cs → AreElements d bytes cs
elements_take d spelled zero bytes cs le fits e =
    let none : length bytes ≡ 0 = omega arith in
    subst (AreElements d bytes) (ok_is nothing cs (sym (elements_none (packet_at d) zero bytes none) ∙ e))
    (nil_from_length bytes none)
elements_take d spelled (suc n) bytes cs le fits e =
    elim (cases_eq (length bytes) 0) [
      | inl none ↦ subst (AreElements d bytes) (ok_is nothing cs (sym (elements_none (packet_at d) (suc n) bytes none)
          ∙ e)) (nil_from_length bytes none)
      | inr some ↦
          let some_left : 0 < length bytes = omega arith in
          let read : elements_from (packet_at d) n bytes ≡ Ok cs = sym (elements_some (packet_at d) n bytes some_left)
          ∙ e in
          let a = bind_ok (element_at bytes) (λ front. packet_at d front.0 >>= λ first. elements_by (packet_at d) n
          front.1 >>= λ others. Ok (element first others)) cs read in
          let front = a.0.0 in
          let rest = a.0.1 in
          let t = element_takes bytes a.0 fits a.1 in
          let shorter : length rest < length bytes = element_shorter bytes a.0 a.1 in
          let b = bind_ok (packet_at d front)
          (λ first. elements_by (packet_at d) n rest >>= λ others. Ok (element first others)) cs a.2 in
          let o = bind_ok (elements_by (packet_at d) n rest) (λ others. Ok (element b.0 others)) cs b.2 in
          let others : AreElements d rest o.0 = elements_take d spelled n rest o.0 (omega arith) t.rest_fits o.1 in
          subst (AreElements d bytes) (ok_is (element b.0 o.0) cs o.2)
          (front, rest, t.size, t.parts, spelled front b.0 t.front_fits b.1, others)
    ]

-- ---- bundles

head_first : (bytes : List ℕ) → is_bundle_start bytes ≡ true → bytes ≡ bundle_head ++ drop 8 bytes
head_first bytes h = (starts_is Decides-eqb bytes bundle_head (is_bundle_start bytes) refl).0 h

head_again : (bytes rest : List ℕ) → bytes ≡ bundle_head ++ rest → is_bundle_start bytes ≡ true
head_again bytes rest e = (starts_is Decides-eqb bytes bundle_head (is_bundle_start bytes) refl).1 rest e

bundle_takes : (d : ℕ) → ReadsSpelled d → (bytes : List ℕ) (c : Content) → IsBytes bytes → is_bundle_start bytes ≡ true
    → bundle_by (packet_at d) (drop 8 bytes) ≡ Ok c → IsPacket (suc d) bytes c
unfolding bundle_by
bundle_takes d spelled bytes c fits start e =
    let behind = drop 8 bytes in
    let a = bind_ok (number_at w64 behind) (λ time. elements_by (packet_at d) (length time.1) time.1 >>= λ items.
    Ok (bundle time.0 items)) c e in
    let time = a.0.0 in
    let rest = a.0.1 in
    let t = number_takes w64 (2 ^ 64) wide64 behind time rest (IsBytes-drop 8 bytes fits) a.1 in
    let b = bind_ok (elements_by (packet_at d) (length rest) rest) (λ items. Ok (bundle time items)) c a.2 in
    let rest_fits : IsBytes rest = IsBytes-rest behind (to_be_bytes w64 time) rest t.0 (IsBytes-drop 8 bytes fits) in
    let items : AreElements d rest b.0 = elements_take d spelled (length rest) rest b.0 (omega arith) rest_fits b.1 in
    subst (IsPacket (suc d) bytes) (ok_is (bundle time b.0) c b.2) (
      t.1,
      rest,
      head_first bytes start
          ∙ ap (λ (r : List ℕ). bundle_head ++ r) t.0,
      items,
    )

-- ---- packets

pub packet_takes : (d : ℕ) → ReadsSpelled d
packet_takes zero bytes c fits e =
    elim (cases_Bool (is_message_start bytes)) [
      | inl starts ↦ message_takes zero bytes c starts fits (sym (message_start zero bytes starts) ∙ e)
      | inr other ↦ elim (cases_Bool (is_bundle_start bytes)) [
        | inl head ↦ let deep = too_deep bytes other head in absurd cc
        | inr none ↦ let bad = no_start zero bytes other none in absurd cc
      ]
    ]
packet_takes (suc d) bytes c fits e =
    elim (cases_Bool (is_message_start bytes)) [
      | inl starts ↦ message_takes (suc d) bytes c starts fits (sym (message_start (suc d) bytes starts) ∙ e)
      | inr other ↦ elim (cases_Bool (is_bundle_start bytes)) [
        | inl head ↦ bundle_takes d (packet_takes d) bytes c fits head (sym (bundle_start d bytes other head) ∙ e)
        | inr none ↦ let bad = no_start (suc d) bytes other none in absurd cc
      ]
    ]

-- ---- the other way

element_first : (d n : ℕ) (bytes front rest : List ℕ) (c : Content) (cs : Contents) → IsSize (length front)
    → bytes ≡ to_be_bytes w32 (length front) ++ (front ++ rest) → packet_at d front ≡ Ok c
    → elements_by (packet_at d) n rest ≡ Ok cs
    → elements_by (packet_at d) (suc n) bytes ≡ Ok (element c cs)
element_first d n bytes front rest c cs size parts first others =
    let len : length bytes ≡ 4 + length (front ++ rest) = ap length parts
    ∙ length-append (to_be_bytes w32 (length front)) (front ++ rest) in
    let some : 0 < length bytes = omega arith in
    let read : element_at bytes ≡ Ok (front, rest) = ap element_at parts ∙ element_again front rest size in
    elements_some (packet_at d) n bytes some ∙ rw (read, first, others) refl

element_len : (bytes front rest : List ℕ) → bytes ≡ to_be_bytes w32 (length front) ++ (front ++ rest)
    → length bytes ≡ 4 + (length front + length rest)
element_len bytes front rest parts = ap length parts ∙ length-append (to_be_bytes w32 (length front)) (front ++ rest)
    ∙ ap (λ (n : ℕ). 4 + n) (length-append front rest)

bundle_again : (d t : ℕ) (bytes rest : List ℕ) (cs : Contents) → t < 2 ^ 64
    → bytes ≡ bundle_head ++ (to_be_bytes w64 t ++ rest) → elements_by (packet_at d) (length rest) rest ≡ Ok cs
    → packet_at (suc d) bytes ≡ Ok (bundle t cs)
unfolding bundle_by
bundle_again d t bytes rest cs small parts items =
    let other : is_message_start bytes ≡ false = ap is_message_start parts in
    let head : is_bundle_start bytes ≡ true = head_again bytes (to_be_bytes w64 t ++ rest) parts in
    let behind : drop 8 bytes ≡ to_be_bytes w64 t ++ rest = ap (drop 8) parts in
    let time : number_at w64 (drop 8 bytes) ≡ Ok (t, rest) = ap (number_at w64) behind
    ∙ number_again w64 (2 ^ 64) wide64 t rest small in
    bundle_start d bytes other head ∙ rw (time, items) refl

mutual
  pub packet_again : (d : ℕ) (bytes : List ℕ) (c : Content) → IsPacket d bytes c → packet_at d bytes ≡ Ok c
  packet_again d bytes (message a xs) h = let p = message_again bytes a xs h in message_start d bytes p.0 ∙ p.1
  packet_again d bytes (discarded a) h = let p = discarded_again bytes a h in message_start d bytes p.0 ∙ p.1
  packet_again zero bytes (bundle t cs) h = absurd h
  packet_again (suc d) bytes (bundle t cs) h =
      bundle_again d t bytes h.1 cs h.0 h.2 (elements_again d (length h.1) h.1 cs (omega arith) h.3)

  elements_again : (d n : ℕ) (bytes : List ℕ) (cs : Contents) → length bytes ≤ n → AreElements d bytes cs
      → elements_by (packet_at d) n bytes ≡ Ok cs
  elements_again d n bytes nothing le h = elements_none (packet_at d) n bytes (ap length h)
  elements_again d zero bytes (element c cs) le h = absurd (omega (arith, element_len bytes h.0 h.1 h.3))
  elements_again d (suc n) bytes (element c cs) le h =
      element_first d n bytes h.0 h.1 c cs h.2 h.3 (packet_again d h.0 c h.4)
      (elements_again d n h.1 cs (omega (arith, element_len bytes h.0 h.1 h.3)) h.5)

-- ---- datagrams

pub datagram_takes : (bytes : List ℕ) (c : Content) → IsBytes bytes → datagram_at bytes ≡ Ok c → Spells bytes c
unfolding datagram_at
datagram_takes bytes c fits e =
    let a = else_ok (ltb MAX_LEN (length bytes)) TooLong
    (cond (not (eqb (length bytes % 4) 0)) (Err NotMultiple) (packet_at 8 bytes)) c e in
    let b = else_ok (not (eqb (length bytes % 4) 0)) NotMultiple (packet_at 8 bytes) c a.1 in (
      ltb-false MAX_LEN (length bytes) a.0,
      eqb-true (length bytes % 4) 0 (not-false (eqb (length bytes % 4) 0) b.0),
      packet_takes 8 bytes c fits b.1,
    )

pub datagram_again : (bytes : List ℕ) (c : Content) → Spells bytes c → datagram_at bytes ≡ Ok c
unfolding datagram_at
datagram_again bytes c h =
    let short : ltb MAX_LEN (length bytes) ≡ false = le-ltb MAX_LEN (length bytes) h.0 in
    let whole : eqb (length bytes % 4) 0 ≡ true = eq-eqb (length bytes % 4) 0 h.1 in
    rw (short, whole) (packet_again 8 bytes c h.2)
