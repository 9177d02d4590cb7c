-- What was written of a device is read back.
use Rattle.std.proofs.Common.{◌≡◌, ◌∙◌, ℕ, ℤ, pos, negsuc, suc, ◌+◌, ◌-◌, ◌/◌, ◌%◌, ◌^◌, ◌<◌, ◌≤◌, Bool, true, false, ◌&&◌, ◌==◌}
use Rattle.std.proofs.Common.{List, [], ◌∷◌, ◌++◌, length, Option, Some, None, refl, sym, ap, append_assoc, arith, ltb, ◌⊎◌, inl, inr}
use Rattle.std.specs.Char.{is_ascii_digit}
use Rattle.std.specs.Int.{w32, from_be_bytes, to_be_bytes}
use Rattle.std.specs.List.{list_all}
use Rattle.std.specs.Net.Text.{dotted_text}
use Rattle.std.specs.Prelude.{codes, decimal, slice_index, nat_le, FitsSigned, IsTrue}
use Rattle.std.proofs.lemmas.Bool.{lt-ltb, leb-true, false≢true}
use Rattle.std.proofs.lemmas.Bool.Decides.{nat_tests}
use Rattle.std.proofs.lemmas.Int.{ints}
use Rattle.cue_osc.proofs.FieldLemmas.{wide32}
use Rattle.cue_device.specs.declared.reading.TheConstants.{MAX_NUMBER}
use Rattle.cue_show.proofs.TestLemmas.{both}
use Rattle.cue_show.specs.DeviceNumber.{is_device}
use Rattle.cue_relay.specs.declared.claims.Claims.{Claims}
use Rattle.cue_relay.specs.declared.claims.Position.{Position}
use Rattle.cue_relay.specs.declared.claims.Reason.{Reason}
use Rattle.cue_relay.specs.declared.claims.TheConstants.{MAX_UNIT, MAX_WORDS}
use Rattle.cue_relay.specs.declared.motion.Motion.{Motion}
use Rattle.cue_relay.specs.declared.motion.Motion.TheVariants.{Unknown, Moving, Over}
use Rattle.cue_relay.specs.declared.route.Address.{Address}
use Rattle.cue_relay.specs.declared.status.Ordered.{Ordered}
use Rattle.cue_relay.specs.declared.status.Ordered.TheVariants.{Standby, Go, Cancel}
use Rattle.cue_relay.specs.Claims.{are_claims, are_words, if_told, is_printable, is_reason, is_unit}
use Rattle.cue_relay.specs.Fitting.{FitsAddress, FitsMotion, FitsPosition, FitsTime}
use Rattle.cue_relay.specs.Messages.{is_attempt}
use Rattle.cue_relay.specs.Pieces.{after, below, if_there, is_of_line, number_after, word_after}
use Rattle.cue_relay.specs.Reading.{address_at, below_zero, claims_at, device_at, from_zero, heard_at, measure_after}
use Rattle.cue_relay.specs.Reading.{measures_at, motion_at, moving_at, never_at, octet_after, octets_after, order_at}
use Rattle.cue_relay.specs.Reading.{ordered_at, over_at, place_said, port_at, rest_at, silent_at, who_said, why_said}
use Rattle.cue_relay.specs.Status.{address_text, claims_text, counted, heard_text, identity_text, measured}
use Rattle.cue_relay.specs.Status.{measures_text, motion_text, ordered_text, position_text, reason_text, silent_text}
use Rattle.cue_relay.specs.Status.{told_text}
use Rattle.cue_relay.proofs.MessageLemmas.{is_attempt-number}
use Rattle.cue_relay.proofs.PieceLemmas.{after-words, line-is, number_after-is, number_at-decimal, starts}
use Rattle.cue_relay.proofs.PieceLemmas.{starts-decimal, word_after-is}

-- ---- a device, and where it is

pub device-is : (d : ℕ) (rest : List ℕ) → is_device d ≡ true → starts is_ascii_digit rest ≡ false
    → device_at (counted (codes "device ") d ++ rest) ≡ Some (d, rest)
unfolding device_at
device-is d rest device stops =
    let low : d ≤ 111 = leb-true d 111 device in
    let byte : ltb d 256 ≡ true = lt-ltb d 256 (omega arith) in
    rw (number_after-is (codes "device ") d rest (omega arith) stops, byte, device) refl

octet-is : (words : List ℕ) (n : ℕ) (rest : List ℕ) → n < 256 → starts is_ascii_digit rest ≡ false
    → octet_after words (counted words n ++ rest) ≡ Some (n, rest)
unfolding octet_after
octet-is words n rest fits stops =
    let byte : ltb n 256 ≡ true = lt-ltb n 256 fits in
    rw (number_after-is words n rest (omega arith) stops, byte) refl

octets-are : (words : List ℕ) (a b : ℕ) (rest : List ℕ) → a < 256 → b < 256 → starts is_ascii_digit rest ≡ false
    → octets_after words (counted words a ++ (counted (codes ".") b ++ rest)) ≡ Some ((a, b), rest)
unfolding octets_after
octets-are words a b rest low_a low_b stops =
    rw (
      octet-is words a (counted (codes ".") b ++ rest) low_a refl,
      octet-is (codes ".") b rest low_b stops,
    ) refl

port-is : (port : ℕ) (rest : List ℕ) → port < 65536 → starts is_ascii_digit rest ≡ false
    → port_at (counted (codes ":") port ++ rest) ≡ Some (port, rest)
unfolding port_at
port-is port rest fits stops =
    let small : ltb port 65536 ≡ true = lt-ltb port 65536 fits in
    rw (number_after-is (codes ":") port rest (omega arith) stops, small) refl

regrouped : (a b c d port : ℕ) (rest : List ℕ)
    → codes " " ++ ((dotted_text a b c d ++ (codes ":" ++ decimal port)) ++ rest)
    ≡ counted (codes " ") a ++ (counted (codes ".") b ++ (counted (codes ".") c ++ (counted (codes ".") d
    ++ (counted (codes ":") port ++ rest))))
regrouped a b c d port rest = simp append_assoc

parts-are : (a b c d port : ℕ) (rest : List ℕ) → a < 256 → b < 256 → c < 256 → d < 256 → port < 65536
    → starts is_ascii_digit rest ≡ false
    → address_at (codes " " ++ ((dotted_text a b c d ++ (codes ":" ++ decimal port)) ++ rest))
    ≡ Some (record { host = from_be_bytes w32 (a ∷ b ∷ c ∷ d ∷ []); port = port }, rest)
unfolding address_at
parts-are a b c d port rest low_a low_b low_c low_d fits stops =
    ap address_at (regrouped a b c d port rest)
    ∙ rw (
      octets-are (codes " ") a b (counted (codes ".") c ++ (counted (codes ".") d
          ++ (counted (codes ":") port ++ rest))) low_a low_b refl,
      octets-are (codes ".") c d (counted (codes ":") port ++ rest) low_c low_d refl,
      port-is port rest fits stops,
    ) refl

pub address-is : (a : Address) (rest : List ℕ) → FitsAddress a → starts is_ascii_digit rest ≡ false
    → address_at (codes " " ++ (address_text a ++ rest)) ≡ Some (a, rest)
unfolding address_text
address-is a rest fits stops =
    let o : List ℕ = to_be_bytes w32 a.host in
    parts-are (slice_index o 0) (slice_index o 1) (slice_index o 2) (slice_index o 3) a.port rest
    (omega arith) (omega arith) (omega arith) (omega arith) fits.port stops
    ∙ ap (λ (h : ℕ). Some (record { host = h; port = a.port }, rest)) (wide32.again a.host fits.host)

-- ---- what is known of it

unheard : (rest : List ℕ) → number_after (codes " heard ") (codes " never" ++ rest) ≡ None
unfolding number_after after
unheard rest = refl

pub heard-is : (o : Option ℕ) (rest : List ℕ) → FitsTime o → starts is_ascii_digit rest ≡ false
    → heard_at (heard_text o ++ rest) ≡ Some (o, rest)
unfolding heard_at heard_text never_at
heard-is None rest fits stops = rw (unheard rest, after-words (codes " never") rest) refl
heard-is (Some now) rest fits stops = rw (number_after-is (codes " heard ") now rest fits stops) refl

-- what stands after the order that it has not answered
abbrev pub after_ordered : Motion → Bool → List ℕ → List ℕ
after_ordered m s more = motion_text m ++ (silent_text s ++ more)

unordered : (m : Motion) (s : Bool) (more : List ℕ)
    → ordered_at (after_ordered m s more) ≡ (None, after_ordered m s more)
unfolding ordered_at order_at after
unordered Unknown true more = refl
unordered Unknown false more = refl
unordered (Moving seq) s more = refl
unordered (Over seq) s more = refl

pub ordered-is : (o : Option Ordered) (m : Motion) (s : Bool) (more : List ℕ)
    → ordered_at (ordered_text o ++ after_ordered m s more) ≡ (o, after_ordered m s more)
unfolding ordered_at order_at after
ordered-is None m s more = unordered m s more
ordered-is (Some Standby) m s more = refl
ordered-is (Some Go) m s more = refl
ordered-is (Some Cancel) m s more = refl

pub silent-stops : (s : Bool) (more : List ℕ) → starts is_ascii_digit (silent_text s ++ more) ≡ false
silent-stops true more = refl
silent-stops false more = refl

no-motion : (s : Bool) (more : List ℕ) → motion_at (silent_text s ++ more) ≡ (Unknown, silent_text s ++ more)
unfolding motion_at moving_at over_at word_after number_after after
no-motion true more = refl
no-motion false more = refl

not-moving : (seq : ℕ) (rest : List ℕ) → moving_at (counted (codes " over ") seq ++ rest) ≡ None
unfolding moving_at word_after number_after after
not-moving seq rest = refl

may-move : (seq : ℕ) (rest : List ℕ) → seq < 4294967296 → starts is_ascii_digit rest ≡ false
    → moving_at (counted (codes " moving ") seq ++ rest) ≡ Some (Moving seq, rest)
unfolding moving_at
may-move seq rest fits stops = rw (word_after-is (codes " moving ") seq rest fits stops) refl

is-over : (seq : ℕ) (rest : List ℕ) → seq < 4294967296 → starts is_ascii_digit rest ≡ false
    → over_at (counted (codes " over ") seq ++ rest) ≡ Some (Over seq, rest)
unfolding over_at
is-over seq rest fits stops = rw (word_after-is (codes " over ") seq rest fits stops) refl

motion-of : (m : Motion) (s : Bool) (more : List ℕ) → FitsMotion m
    → motion_at (after_ordered m s more) ≡ (m, silent_text s ++ more)
unfolding motion_at
motion-of Unknown s more fits = no-motion s more
motion-of (Moving seq) s more fits =
    rw (may-move seq (silent_text s ++ more) fits (silent-stops s more)) refl
motion-of (Over seq) s more fits =
    rw (
      not-moving seq (silent_text s ++ more),
      is-over seq (silent_text s ++ more) fits (silent-stops s more),
    ) refl

pub motion-is : (m : Motion) (s : Bool) (more : List ℕ) → FitsMotion m
    → motion_at (after_ordered m s more) ≡ (m, silent_text s ++ more)
motion-is m s more fits = motion-of m s more fits

pub silent-is : (s : Bool) (more : List ℕ) → silent_at (silent_text s ++ more) ≡ (s, codes "\n" ++ more)
unfolding silent_at after
silent-is true more = refl
silent-is false more = refl

-- ---- what it told of itself

-- a printable byte ends no line
printable-of-line : (b : ℕ) → is_printable b ≡ true → is_of_line b ≡ true
printable-of-line b h = grind (arith, nat_tests)

all-of-line : (bs : List ℕ) → list_all is_printable bs ≡ true → list_all is_of_line bs ≡ true
all-of-line [] h = refl
all-of-line (b ∷ bs) h =
    let parts = both (is_printable b) (list_all is_printable bs) h in
    rw (printable-of-line b parts.0, all-of-line bs parts.1) refl

-- what was told, after its word, and the end of its line
rest-is : (most : ℕ) (told rest : List ℕ) → nat_le (length told) most ≡ true → list_all is_printable told ≡ true
    → rest_at most (told ++ (codes "\n" ++ rest)) ≡ Some (told, rest)
unfolding rest_at
rest-is most told rest short printable =
    let cut = line-is told rest (all-of-line told printable) in
    rw (cut, short, after-words (codes "\n") rest) refl

told-is : (word told rest : List ℕ) → told_text word told ++ rest ≡ word ++ (told ++ (codes "\n" ++ rest))
unfolding told_text
told-is word told rest = simp append_assoc

why-is : (r : Reason) (rest : List ℕ) → is_reason r ≡ true
    → why_said (reason_text (Some r) ++ rest) ≡ Some (r, rest)
unfolding why_said reason_text
why-is r rest may =
    let parts = both (is_attempt r.seq) (are_words r.words) may in
    let more = both (nat_le 1 (length r.words)) (nat_le (length r.words) MAX_WORDS
    && list_all is_printable r.words) parts.1 in
    let last = both (nat_le (length r.words) MAX_WORDS) (list_all is_printable r.words) more.1 in
    let number = is_attempt-number r.seq parts.0 in
    ap why_said (append_assoc (counted (codes "why ") r.seq) (told_text (codes " ") r.words) rest
    ∙ ap (λ (x : List ℕ). counted (codes "why ") r.seq ++ x) (told-is (codes " ") r.words rest))
    ∙ rw (
      word_after-is (codes "why ") r.seq (codes " " ++ (r.words ++ (codes "\n" ++ rest))) (omega (arith, number)) refl,
      after-words (codes " ") (r.words ++ (codes "\n" ++ rest)),
      rest-is MAX_WORDS r.words rest last.0 last.1,
    ) refl

who-is : (w rest : List ℕ) → are_words w ≡ true → who_said (identity_text (Some w) ++ rest) ≡ Some (w, rest)
unfolding who_said identity_text
who-is w rest may =
    let more = both (nat_le 1 (length w)) (nat_le (length w) MAX_WORDS && list_all is_printable w) may in
    let last = both (nat_le (length w) MAX_WORDS) (list_all is_printable w) more.1 in
    ap who_said (told-is (codes "who ") w rest)
    ∙ rw (
      after-words (codes "who ") (w ++ (codes "\n" ++ rest)),
      rest-is MAX_WORDS w rest last.0 last.1,
    ) refl

-- ---- numbers that may be negative

after-digit : (text : List ℕ) → starts is_ascii_digit text ≡ true → after (codes "-") text ≡ None
unfolding after
after-digit [] h = absurd (false≢true h)
after-digit (b ∷ bs) h = let other : (b == 45) ≡ false = grind (arith, nat_tests) in rw other refl

not-below : (n : ℕ) (rest : List ℕ) → n < 2 ^ 64 → below_zero (decimal n ++ rest) ≡ None
unfolding below_zero number_after
not-below n rest fits = rw (after-digit (decimal n ++ rest) (starts-decimal n rest fits)) refl

from-zero-is : (n : ℕ) (rest : List ℕ) → n < 2147483648 → starts is_ascii_digit rest ≡ false
    → from_zero (decimal n ++ rest) ≡ Some (pos n, rest)
unfolding from_zero
from-zero-is n rest fits stops =
    let small : ltb n 2147483648 ≡ true = lt-ltb n 2147483648 fits in
    rw (number_at-decimal n rest (omega arith) stops, small) refl

below-zero-is : (n : ℕ) (rest : List ℕ) → suc n < 2147483649 → starts is_ascii_digit rest ≡ false
    → below_zero (counted (codes "-") (suc n) ++ rest) ≡ Some (negsuc n, rest)
unfolding below_zero
below-zero-is n rest fits stops =
    let small : ltb (suc n) 2147483649 ≡ true = lt-ltb (suc n) 2147483649 fits in
    rw (number_after-is (codes "-") (suc n) rest (omega arith) stops, small) refl

measure-is : (words : List ℕ) (z : ℤ) (rest : List ℕ) → FitsSigned w32 z → starts is_ascii_digit rest ≡ false
    → measure_after words (measured words z ++ rest) ≡ Some (z, rest)
unfolding measure_after
measure-is words (pos n) rest fits stops =
    let low : n < 2147483648 = omega (arith, ints, fits) in
    ap (measure_after words) (append_assoc words (decimal n) rest)
    ∙ rw (
      after-words words (decimal n ++ rest),
      not-below n rest (omega arith),
      from-zero-is n rest low stops,
    ) refl
measure-is words (negsuc n) rest fits stops =
    let low : suc n < 2147483649 = omega (arith, ints, fits) in
    ap (measure_after words) (append_assoc words (counted (codes "-") (suc n)) rest)
    ∙ rw (
      after-words words (counted (codes "-") (suc n) ++ rest),
      below-zero-is n rest low stops,
    ) refl

measured-stops : (z : ℤ) (rest : List ℕ) → starts is_ascii_digit (measured (codes " ") z ++ rest) ≡ false
measured-stops z rest = refl

measures-are : (at goal : ℤ) (rest : List ℕ) → FitsSigned w32 at → FitsSigned w32 goal
    → starts is_ascii_digit rest ≡ false
    → measures_at (measures_text at goal ++ rest) ≡ Some ((at, goal), rest)
unfolding measures_at measures_text
measures-are at goal rest fits_at fits_goal stops =
    ap measures_at (append_assoc (measured (codes " ") at) (measured (codes " ") goal) rest)
    ∙ rw (
      measure-is (codes " ") at (measured (codes " ") goal ++ rest) fits_at (measured-stops goal rest),
      measure-is (codes " ") goal rest fits_goal stops,
    ) refl

measures-stop : (at goal : ℤ) (rest : List ℕ) → starts is_ascii_digit (measures_text at goal ++ rest) ≡ false
unfolding measures_text
measures-stop at goal rest = refl

position-is : (p : Position) (rest : List ℕ) → FitsPosition (Some p) → is_unit p.unit ≡ true
    → place_said (position_text (Some p) ++ rest) ≡ Some (p, rest)
unfolding place_said position_text
position-is p rest fits may =
    let last = both (nat_le (length p.unit) MAX_UNIT) (list_all is_printable p.unit) may in
    let unit : List ℕ = codes " " ++ (p.unit ++ (codes "\n" ++ rest)) in
    let told : List ℕ = told_text (codes " ") p.unit in
    ap place_said (append_assoc (counted (codes "at ") p.told) (measures_text p.at p.goal ++ told) rest
    ∙ ap (λ (x : List ℕ). counted (codes "at ") p.told ++ x)
    (append_assoc (measures_text p.at p.goal) told rest
    ∙ ap (λ (x : List ℕ). measures_text p.at p.goal ++ x) (told-is (codes " ") p.unit rest)))
    ∙ rw (
      number_after-is (codes "at ") p.told (measures_text p.at p.goal ++ unit) fits.0
          (measures-stop p.at p.goal unit),
      measures-are p.at p.goal unit fits.1 fits.2 refl,
      after-words (codes " ") (p.unit ++ (codes "\n" ++ rest)),
      rest-is MAX_UNIT p.unit rest last.0 last.1,
    ) refl

-- ---- the three lines

-- another device follows, or the end
abbrev pub IsNext : List ℕ → Type 0
IsNext rest = ((more : List ℕ) × (rest ≡ codes "device " ++ more)) ⊎ (rest ≡ codes "end\n")

no-why : (rest : List ℕ) → IsNext rest → why_said rest ≡ None
unfolding why_said word_after number_after after
no-why rest (inl e) = ap why_said e.1
no-why rest (inr e) = ap why_said e

no-place : (rest : List ℕ) → IsNext rest → place_said rest ≡ None
unfolding place_said number_after after
no-place rest (inl e) = ap place_said e.1
no-place rest (inr e) = ap place_said e

no-who : (rest : List ℕ) → IsNext rest → who_said rest ≡ None
unfolding who_said after
no-who rest (inl e) = ap who_said e.1
no-who rest (inr e) = ap who_said e

no-why-before : (p : Option Position) (w : Option (List ℕ)) (rest : List ℕ) → IsNext rest
    → why_said (position_text p ++ (identity_text w ++ rest)) ≡ None
unfolding why_said position_text identity_text told_text word_after number_after after
no-why-before (Some p) w rest next = refl
no-why-before None (Some w) rest next = refl
no-why-before None None rest next = no-why rest next

no-place-before : (w : Option (List ℕ)) (rest : List ℕ) → IsNext rest
    → place_said (identity_text w ++ rest) ≡ None
unfolding place_said identity_text told_text number_after after
no-place-before (Some w) rest next = refl
no-place-before None rest next = no-place rest next

reason-there : (r : Option Reason) (rest : List ℕ) → if_told is_reason r ≡ true → why_said rest ≡ None
    → if_there (why_said (reason_text r ++ rest)) (reason_text r ++ rest) ≡ (r, rest)
unfolding reason_text
reason-there None rest may none = rw none refl
reason-there (Some r) rest may none = ap (λ o. if_there o (reason_text (Some r) ++ rest)) (why-is r rest may)

position-there : (p : Option Position) (rest : List ℕ) → FitsPosition p → if_told (λ x. is_unit x.unit) p ≡ true
    → place_said rest ≡ None
    → if_there (place_said (position_text p ++ rest)) (position_text p ++ rest) ≡ (p, rest)
unfolding position_text
position-there None rest fits may none = rw none refl
position-there (Some p) rest fits may none =
    ap (λ o. if_there o (position_text (Some p) ++ rest)) (position-is p rest fits may)

identity-there : (w : Option (List ℕ)) (rest : List ℕ) → if_told are_words w ≡ true → who_said rest ≡ None
    → if_there (who_said (identity_text w ++ rest)) (identity_text w ++ rest) ≡ (w, rest)
unfolding identity_text
identity-there None rest may none = rw none refl
identity-there (Some w) rest may none = ap (λ o. if_there o (identity_text (Some w) ++ rest)) (who-is w rest may)

pub claims-are : (c : Claims) (rest : List ℕ) → FitsPosition c.position → are_claims c ≡ true → IsNext rest
    → claims_at (claims_text c ++ rest) ≡ (c, rest)
unfolding claims_at claims_text
claims-are c rest fits may next =
    let parts = both (if_told is_reason c.reason) (if_told (λ x. is_unit x.unit) c.position
    && if_told are_words c.identity) may in
    let more = both (if_told (λ x. is_unit x.unit) c.position) (if_told are_words c.identity) parts.1 in
    ap claims_at (append_assoc (reason_text c.reason) (position_text c.position ++ identity_text c.identity) rest
    ∙ ap (λ (x : List ℕ). reason_text c.reason ++ x)
    (append_assoc (position_text c.position) (identity_text c.identity) rest))
    ∙ rw (
      reason-there c.reason (position_text c.position ++ (identity_text c.identity ++ rest)) parts.0
          (no-why-before c.position c.identity rest next),
      position-there c.position (identity_text c.identity ++ rest) fits more.0
          (no-place-before c.identity rest next),
      identity-there c.identity rest more.1 (no-who rest next),
    ) refl
