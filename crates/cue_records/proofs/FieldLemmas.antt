-- Each field: what is read is spelled so and fits, and is read again.
use Rattle.std.proofs.Common.{◌≡◌, ℕ, ◌≤◌, Bool, true, false, cond, ◌&&◌, ◌==◌, List, [], ◌∷◌, ◌++◌, length, take, drop}
use Rattle.std.proofs.Common.{Option, Some, None, not, IsTrue, nat_le, ltb, refl, sym, ap, subst, ◌∙◌, arith}
use Rattle.std.specs.Char.{is_ascii_digit}
use Rattle.std.specs.List.{list_all}
use Rattle.std.specs.Int.{w64}
use Rattle.std.proofs.lemmas.Bool.{le-leb, leb-true, ltb-false, le-ltb, eqb-true}
use Rattle.std.proofs.lemmas.Bool.Decides.{nat_tests}
use Rattle.std.proofs.lemmas.List.{take_at, drop_at, take-append-drop, length-append, length-take}
use Rattle.cue_show.specs.Bytes.{are_bytes}
use Rattle.cue_show.specs.DeviceNumber.{is_device, is_port}
use Rattle.cue_show.specs.Devices.{distinct, devices_in}
use Rattle.cue_show.specs.Number.{pieces, is_run, is_cue_number}
use Rattle.cue_show.specs.Parts.{is_part, is_required_part, has_required_part, are_parts}
use Rattle.cue_show.specs.declared.limits.TheConstants.{MAX_DEVICE_NUMBER, MAX_CUE_BYTES, MAX_PARTS, MAX_PART_BYTES}
use Rattle.cue_show.specs.declared.part.Part.{Part}
use Rattle.cue_show.proofs.RunsLemmas.{runs_from, runs_from-start}
use Rattle.cue_exchange.specs.Live.{is_number, is_time}
use Rattle.cue_exchange.specs.declared.attempt.Reason.{Reason}
use Rattle.cue_exchange.specs.declared.attempt.Reason.TheVariants.{Operator, Deadline, Abort, Power, Release}
use Rattle.cue_exchange.specs.declared.limits.TheConstants.{MAX_NUMBER}
use Rattle.cue_core.proofs.lists.ConditionLemmas.{both, join, all_from, all_zip}
use Rattle.cue_records.specs.declared.parts_form.PartsForm.{PartsForm}
use Rattle.cue_records.specs.declared.parts_form.PartsForm.TheVariants.{Plain, Flagged}
use Rattle.cue_records.specs.Fields.{byte_text, short_text, number_text, time_text, text_text, flag_number, flag_text}
use Rattle.cue_records.specs.Fields.{part_text, parts_text, are_required, entry_text, new_cue_text, reason_number}
use Rattle.cue_records.specs.Reading.{byte_at, number_at, bytes_at, text_at, device_at, port_at, sequence_at, cue_at}
use Rattle.cue_records.specs.Reading.{part_bytes_at, flag_of, flag_at, part_at, part_count_at, parts_at, entry_at}
use Rattle.cue_records.specs.Reading.{new_cue_at, reason_of, reason_at}
use Rattle.cue_records.proofs.TakingLemmas.{Takes, IsField, bind_some, else_some, some_is, bytes_apart, bytes_behind}
use Rattle.cue_records.proofs.TakingLemmas.{refit, where_field, test_field, as_field, made_field, both_field}
use Rattle.cue_records.proofs.TakingLemmas.{counted_field}
use Rattle.cue_records.proofs.NumberLemmas.{field16, field32, field64}

-- ---- bytes

byte_takes : (bytes : List ℕ) (x : ℕ × List ℕ) → IsTrue (are_bytes bytes) → byte_at bytes ≡ Some x
    → Takes byte_text (λ n. nat_le n 255) bytes x
byte_takes [] x b e = absurd cc
byte_takes (n ∷ rest) x b e = subst (Takes byte_text (λ n. nat_le n 255) (n ∷ rest)) (some_is (n, rest) x e)
    (refl, (both (nat_le n 255) (are_bytes rest) b).0)

pub byte_field : IsField byte_at byte_text (λ n. nat_le n 255)
byte_field = record { takes = byte_takes; again = λ n rest h. refl }

-- one of the numbers, and else the rest
pub step_number : {X : Type 0} (number : X → ℕ) (n k : ℕ) (x : X) (o : Option X) → number x ≡ k
    → ((y : X) → o ≡ Some y → number y ≡ n) → (y : X) → cond (n == k) (Some x) o ≡ Some y → number y ≡ n
step_number number n k x o is others y e = by (n == k) refl e
  where
    by : (b : Bool) → (n == k) ≡ b → cond b (Some x) o ≡ Some y → number y ≡ n
    by true same e = ap number (sym (some_is x y e)) ∙ is ∙ sym (eqb-true n k same)
    by false same e = others y e

-- ---- texts

text_takes : (bytes : List ℕ) (x : List ℕ × List ℕ) → IsTrue (are_bytes bytes) → text_at bytes ≡ Some x
    → Takes text_text (λ t. nat_le (length t) 255 && are_bytes t) bytes x
unfolding text_at
text_takes bytes x b e =
    let s = bind_some (byte_at bytes) (λ n. bytes_at n.0 n.1) x e in
    let n = s.0.0 in
    let rest = s.0.1 in
    let t = byte_field.takes bytes s.0 b s.1 in
    let g = else_some (ltb (length rest) n) (take n rest, drop n rest) x s.2 in
    let long : n ≤ length rest = ltb-false (length rest) n g.0 in
    let len : length (take n rest) ≡ n = omega (arith, length-take n rest) in
    let whole : take n rest ++ drop n rest ≡ rest = take-append-drop n rest in
    let parts = bytes_apart (take n rest) (drop n rest)
    (subst (λ bs. IsTrue (are_bytes bs)) (sym whole) (bytes_behind bytes (byte_text n) rest t.0 b)) in
    subst (Takes text_text (λ t. nat_le (length t) 255 && are_bytes t) bytes) g.1 (
      t.0 ∙ ap (λ bs. n ∷ bs) (sym whole)
          ∙ ap (λ m. m ∷ (take n rest ++ drop n rest)) (sym len),
      join (nat_le (length (take n rest)) 255)
          (are_bytes (take n rest)) (rw len t.1) parts.0,
    )

text_again : (t rest : List ℕ) → text_at (text_text t ++ rest) ≡ Some (t, rest)
unfolding text_at
text_again t rest =
    let long : ltb (length (t ++ rest)) (length t) ≡ false = le-ltb _ _ (omega (arith, length-append t rest)) in
    rw (long, take_at t rest (length t) refl, drop_at t rest (length t) refl) refl

pub text_field : IsField text_at text_text (λ t. nat_le (length t) 255 && are_bytes t)
text_field = record { takes = text_takes; again = λ t rest h. text_again t rest }

-- ---- numbers

device_byte : (d : ℕ) → IsTrue (is_device d) → IsTrue (nat_le d 255)
device_byte d h = let k : d ≤ MAX_DEVICE_NUMBER = leb-true d MAX_DEVICE_NUMBER h in le-leb d 255 (omega arith)

pub device_field : IsField device_at byte_text is_device
unfolding device_at
device_field = test_field is_device byte_field device_byte

pub port_field : IsField port_at short_text is_port
unfolding port_at
port_field = where_field (nat_le 1) field16

number_below : (q : ℕ) → IsTrue (is_number q) → IsTrue (nat_le q 4294967295)
number_below q h = let k : q ≤ MAX_NUMBER = leb-true q MAX_NUMBER (both (nat_le 1 q) (nat_le q MAX_NUMBER) h).1 in
    le-leb q 4294967295 (omega arith)

pub sequence_field : IsField sequence_at number_text is_number
unfolding sequence_at
sequence_field = test_field is_number field32 number_below

pub time_field : IsField (number_at w64) time_text is_time
time_field = field64

reason_numbered : (n : ℕ) (r : Reason) → reason_of n ≡ Some r → reason_number r ≡ n
reason_numbered n =
    step_number reason_number n 1 Operator _ refl
    (step_number reason_number n 2 Deadline _ refl
    (step_number reason_number n 3 Abort _ refl
    (step_number reason_number n 4 Power _ refl
    (step_number reason_number n 5 Release None refl (λ r e. absurd cc)))))

reason_again : (r : Reason) → reason_of (reason_number r) ≡ Some r
reason_again Operator = refl
reason_again Deadline = refl
reason_again Abort = refl
reason_again Power = refl
reason_again Release = refl

reason_byte : (r : Reason) → IsTrue (nat_le (reason_number r) 255)
reason_byte Operator = refl
reason_byte Deadline = refl
reason_byte Abort = refl
reason_byte Power = refl
reason_byte Release = refl

pub reason_field : IsField reason_at (λ r. byte_text (reason_number r)) (λ r. true)
unfolding reason_at
reason_field = made_field reason_of reason_number (λ r. true) byte_field (λ n r h e. (reason_numbered n r e, refl))
    (λ r h. reason_again r) (λ r h. reason_byte r)

-- ---- cues

digit_byte : (b : ℕ) → is_ascii_digit b ≡ true → IsTrue (nat_le b 255)
digit_byte b h = grind (arith, nat_tests)

-- digits and points are bytes
runs_are_bytes : (after_digit : Bool) (bs : List ℕ) → runs_from after_digit bs ≡ true → IsTrue (are_bytes bs)
runs_are_bytes a [] h = refl
runs_are_bytes a (b ∷ bs) h = by (is_ascii_digit b) refl h (runs_are_bytes true bs) (runs_are_bytes false bs)
  where
    by : (d : Bool) → is_ascii_digit b ≡ d → cond d (runs_from true bs) (b == 46 && (a && runs_from false bs)) ≡ true
        → (runs_from true bs ≡ true → IsTrue (are_bytes bs)) → (runs_from false bs ≡ true → IsTrue (are_bytes bs))
        → IsTrue (are_bytes (b ∷ bs))
    by true digit h after before = join (nat_le b 255) (are_bytes bs) (digit_byte b digit) (after h)
    by false digit h after before =
        let here = both (b == 46) (a && runs_from false bs) h in
        let point : b ≡ 46 = eqb-true b 46 here.0 in
        join (nat_le b 255) (are_bytes bs) (le-leb b 255 (omega arith)) (before (both a (runs_from false bs) here.1).1)

pub cue_short : (c : List ℕ) → IsTrue (is_cue_number c) → IsTrue (nat_le (length c) 255 && are_bytes c)
cue_short c h =
    let p = both (nat_le (length c) MAX_CUE_BYTES) (list_all is_run (pieces c)) h in
    let k : length c ≤ MAX_CUE_BYTES = leb-true (length c) MAX_CUE_BYTES p.0 in
    join (nat_le (length c) 255) (are_bytes c) (le-leb (length c) 255 (omega arith))
    (runs_are_bytes false c (rw (runs_from-start c) p.1))

pub cue_field : IsField cue_at text_text is_cue_number
unfolding cue_at
cue_field = test_field is_cue_number text_field cue_short

-- ---- parts

short_bytes : (most other : ℕ) → most ≤ other → (t : List ℕ) → IsTrue (nat_le (length t) most && are_bytes t)
    → IsTrue (nat_le (length t) most && (nat_le (length t) other && are_bytes t))
short_bytes most other less t h =
    let p = both (nat_le (length t) most) (are_bytes t) h in
    let k : length t ≤ most = leb-true (length t) most p.0 in
    join (nat_le (length t) most) (nat_le (length t) other && are_bytes t) p.0
    (join (nat_le (length t) other) (are_bytes t) (le-leb (length t) other (omega arith)) p.1)

bytes_short : (most other : ℕ) → (t : List ℕ)
    → IsTrue (nat_le (length t) most && (nat_le (length t) other && are_bytes t))
    → IsTrue (nat_le (length t) most && are_bytes t)
bytes_short most other t h =
    let p = both (nat_le (length t) most) (nat_le (length t) other && are_bytes t) h in
    join (nat_le (length t) most) (are_bytes t) p.0 (both (nat_le (length t) other) (are_bytes t) p.1).1

part_bytes_field : IsField part_bytes_at text_text (λ t. nat_le (length t) MAX_PART_BYTES && are_bytes t)
unfolding part_bytes_at
part_bytes_field =
    refit (λ t. nat_le (length t) MAX_PART_BYTES && are_bytes t)
    (where_field (λ t. nat_le (length t) MAX_PART_BYTES) text_field) (bytes_short MAX_PART_BYTES 255)
    (short_bytes MAX_PART_BYTES 255 (omega arith))

flag_numbered : (n : ℕ) (o : Bool) → flag_of n ≡ Some o → flag_number o ≡ n
flag_numbered n =
    step_number flag_number n 0 false _ refl
    (step_number flag_number n 1 true None refl (λ o e. absurd cc))

flag_again : (o : Bool) → flag_of (flag_number o) ≡ Some o
flag_again false = refl
flag_again true = refl

flag_byte : (o : Bool) → IsTrue (nat_le (flag_number o) 255)
flag_byte false = refl
flag_byte true = refl

-- the plain form tells required parts alone
abbrev flag_fits : PartsForm → Bool → Bool
flag_fits Plain optional = not optional
flag_fits Flagged optional = true

no_flag_takes : (bytes : List ℕ) (x : Bool × List ℕ) → flag_at Plain bytes ≡ Some x
    → Takes (flag_text Plain) (flag_fits Plain) bytes x
unfolding flag_at
no_flag_takes bytes x e = subst (Takes (flag_text Plain) (flag_fits Plain) bytes) (some_is (false, bytes) x e)
    (refl, refl)

no_flag_again : (o : Bool) (rest : List ℕ) → IsTrue (flag_fits Plain o)
    → flag_at Plain (flag_text Plain o ++ rest) ≡ Some (o, rest)
unfolding flag_at
no_flag_again false rest h = refl
no_flag_again true rest h = absurd cc

flag_field : (form : PartsForm) → IsField (flag_at form) (flag_text form) (flag_fits form)
unfolding flag_at
flag_field Plain = record { takes = λ bytes x b e. no_flag_takes bytes x e; again = no_flag_again }
flag_field Flagged = made_field flag_of flag_number (λ o. true) byte_field (λ n o h e. (flag_numbered n o e, refl))
    (λ o h. flag_again o) (λ o h. flag_byte o)

-- the part has a text in this form
abbrev part_fits : PartsForm → Part → Bool
part_fits form p = is_part p && flag_fits form p.optional

-- the same three tests in another order
last_but_one : (a b c : Bool) → IsTrue (a && (b && c)) → IsTrue ((a && c) && b)
last_but_one true true c h = rw h refl
last_but_one false b c h = absurd cc
last_but_one true false c h = absurd cc

last_again : (a b c : Bool) → IsTrue ((a && c) && b) → IsTrue (a && (b && c))
last_again true b true h = rw h refl
last_again false b c h = absurd cc
last_again true b false h = absurd cc

part_field : (form : PartsForm) → IsField (part_at form) (part_text form) (part_fits form)
unfolding part_at
part_field form =
    refit (part_fits form)
    (as_field (λ x. record { device = x.0; optional = x.1.0; bytes = x.1.1 }) (λ p. (p.device, (p.optional, p.bytes)))
    (both_field device_field (both_field (flag_field form) part_bytes_field)) (λ x. refl) (λ p. refl))
    (λ p h. last_but_one (is_device p.device) (flag_fits form p.optional)
    (nat_le (length p.bytes) MAX_PART_BYTES && are_bytes p.bytes) h)
    (λ p h. last_again (is_device p.device) (flag_fits form p.optional)
    (nat_le (length p.bytes) MAX_PART_BYTES && are_bytes p.bytes) h)

-- the parts have an encoding in this form: as plain parts only where each is required
abbrev pub have_text : PartsForm → List Part → Bool
have_text Plain parts = are_required parts
have_text Flagged parts = true

-- what each part is
all_fit : (form : PartsForm) (ps : List Part) → IsTrue (list_all (part_fits form) ps) → IsTrue (list_all is_part ps)
    × IsTrue (have_text form ps)
all_fit Plain ps h = (
  all_from (part_fits Plain) is_part ps (λ p k. (both (is_part p) (flag_fits Plain p.optional) k).0) h,
  all_from
      (part_fits Plain) is_required_part ps (λ p k. (both (is_part p) (flag_fits Plain p.optional) k).1) h,
)
all_fit Flagged ps h = (
  all_from (part_fits Flagged) is_part ps
      (λ p k. (both (is_part p) (flag_fits Flagged p.optional) k).0) h,
  refl,
)

each_fits : (form : PartsForm) (ps : List Part) → IsTrue (list_all is_part ps) → IsTrue (have_text form ps)
    → IsTrue (list_all (part_fits form) ps)
each_fits Plain ps h k =
    all_zip is_part is_required_part (part_fits Plain) ps (λ p a b. join (is_part p) (flag_fits Plain p.optional) a b) h
    k
each_fits Flagged ps h k = all_from is_part (part_fits Flagged) ps (λ p a. join (is_part p) true a refl) h

part_count_byte : (n : ℕ) → IsTrue (nat_le n MAX_PARTS) → IsTrue (nat_le n 255)
part_count_byte n h = let k : n ≤ MAX_PARTS = leb-true n MAX_PARTS h in le-leb n 255 (omega arith)

part_count_field : IsField part_count_at byte_text (λ n. nat_le n MAX_PARTS)
unfolding part_count_at
part_count_field = test_field (λ n. nat_le n MAX_PARTS) byte_field part_count_byte

-- the rules of a list of parts, one by one
pub record PartsRules (ps : List Part) : Type 0 where
  pub some : IsTrue (has_required_part ps)
  pub few : IsTrue (nat_le (length ps) MAX_PARTS)
  pub apart : IsTrue (distinct (devices_in ps))
  pub each : IsTrue (list_all is_part ps)

pub parts_rules : (ps : List Part) → IsTrue (are_parts ps) → PartsRules ps
parts_rules ps h =
    let p = both (has_required_part ps)
    (nat_le (length ps) MAX_PARTS && (distinct (devices_in ps) && list_all is_part ps)) h in
    let q = both (nat_le (length ps) MAX_PARTS) (distinct (devices_in ps) && list_all is_part ps) p.1 in
    let r = both (distinct (devices_in ps)) (list_all is_part ps) q.1 in
    record { some = p.0; few = q.0; apart = r.0; each = r.1 }

-- as the reader tests them
abbrev are_tested : PartsForm → List Part → Bool
are_tested form ps = (has_required_part ps && distinct (devices_in ps)) &&
    (nat_le (length ps) MAX_PARTS && list_all (part_fits form) ps)

tested_parts : (form : PartsForm) (ps : List Part) → IsTrue (are_tested form ps)
    → IsTrue (are_parts ps && have_text form ps)
tested_parts form ps h =
    let p = both (has_required_part ps && distinct (devices_in ps))
    (nat_le (length ps) MAX_PARTS && list_all (part_fits form) ps) h in
    let q = both (has_required_part ps) (distinct (devices_in ps)) p.0 in
    let r = both (nat_le (length ps) MAX_PARTS) (list_all (part_fits form) ps) p.1 in
    let t = all_fit form ps r.1 in
    join (are_parts ps) (have_text form ps)
    (join (has_required_part ps) (nat_le (length ps) MAX_PARTS && (distinct (devices_in ps) && list_all is_part ps)) q.0
    (join (nat_le (length ps) MAX_PARTS) (distinct (devices_in ps) && list_all is_part ps) r.0
    (join (distinct (devices_in ps)) (list_all is_part ps) q.1 t.0)))
    t.1

parts_tested : (form : PartsForm) (ps : List Part) → IsTrue (are_parts ps && have_text form ps)
    → IsTrue (are_tested form ps)
parts_tested form ps h =
    let k = both (are_parts ps) (have_text form ps) h in
    let r = parts_rules ps k.0 in
    join (has_required_part ps && distinct (devices_in ps))
    (nat_le (length ps) MAX_PARTS && list_all (part_fits form) ps)
    (join (has_required_part ps) (distinct (devices_in ps)) r.some r.apart)
    (join (nat_le (length ps) MAX_PARTS) (list_all (part_fits form) ps) r.few (each_fits form ps r.each k.1))

pub parts_field : (form : PartsForm)
    → IsField (parts_at form) (parts_text form) (λ ps. are_parts ps && have_text form ps)
unfolding parts_at
parts_field form =
    refit (λ ps. are_parts ps && have_text form ps)
    (where_field (λ ps. has_required_part ps && distinct (devices_in ps))
    (counted_field part_count_field (part_field form)))
    (tested_parts form) (parts_tested form)

-- ---- entries

pub entry_field : IsField entry_at entry_text (λ x. is_device x.0 && is_port x.1)
unfolding entry_at
entry_field = both_field device_field port_field

-- the entry has a text in this form
abbrev pub new_cue_fits : PartsForm → List ℕ × List Part → Bool
new_cue_fits form e = is_cue_number e.0 && (are_parts e.1 && have_text form e.1)

pub new_cue_field : (form : PartsForm) → IsField (new_cue_at form) (new_cue_text form) (new_cue_fits form)
unfolding new_cue_at
new_cue_field form = both_field cue_field (parts_field form)
