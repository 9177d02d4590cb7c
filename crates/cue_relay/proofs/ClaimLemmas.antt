-- A datagram is read as a claim exactly where it is one.
use Rattle.std.proofs.Common.{◌≡◌, ◌∙◌, ℕ, ℤ, pos, ◌+◌, ◌-◌, ◌%◌, ◌^◌, ◌<◌, ◌≤◌, Bool, true, false, ◌&&◌, ◌==◌, cond}
use Rattle.std.proofs.Common.{List, [], ◌∷◌, ◌++◌, length, take, drop, Option, Some, None, Result, Ok, Err, refl, sym, ap, subst, arith, rules, nat_lt}
use Rattle.std.specs.Int.{w32, cast_signed, cast_unsigned, from_be_bytes, to_be_bytes}
use Rattle.std.specs.List.{list_all}
use Rattle.std.specs.Option.{ok_or}
use Rattle.std.specs.Prelude.{codes, decimal, nat_le, FitsSigned, IsTrue, IfSome, IfNone}
use Rattle.std.proofs.lemmas.Bool.{eqb-true, leb-true}
use Rattle.std.proofs.lemmas.Bool.Decides.{nat_tests}
use Rattle.std.proofs.lemmas.Int.{of_z-to_z, to_z-of_z}
use Rattle.std.proofs.Math.Facts.{sfits_to_z, Fits-of_z, Fits-of_lt, Fits-lt-pow}
use Rattle.std.proofs.lemmas.Option.{none-some, same_Some}
use Rattle.cue_osc.specs.declared.fault.Fault.{Fault}
use Rattle.cue_osc.specs.declared.fault.Fault.TheVariants.{BadSize, BadString}
use Rattle.cue_osc.specs.Argument.{Argument, int, text}
use Rattle.cue_osc.specs.Reading.{number_at, padded_at, string_at, text_len}
use Rattle.cue_osc.specs.Spelling.{IsText, argument, osc_string}
use Rattle.cue_osc.proofs.FieldLemmas.{IsBytes, IsBytes-rest, arg_again, number_again, number_takes, string_again}
use Rattle.cue_osc.proofs.FieldLemmas.{string_takes, wide32}
use Rattle.cue_device.specs.declared.reading.TheConstants.{MAX_NUMBER}
use Rattle.cue_show.proofs.TestLemmas.{both, join}
use Rattle.cue_show.proofs.TextLemmas.{same_text-itself, same_text-true}
use Rattle.cue_show.specs.Number.{same_text}
use Rattle.cue_relay.specs.declared.claims.Claim.{Claim}
use Rattle.cue_relay.specs.declared.claims.Claim.TheVariants.{Why, At, Who}
use Rattle.cue_relay.specs.declared.claims.Reason.{Reason}
use Rattle.cue_relay.specs.declared.claims.TheConstants.{MAX_UNIT, MAX_WORDS}
use Rattle.cue_relay.specs.Claims.{FitsClaim, IsClaimOf, are_words, at_at, claim_address, claim_in, claim_text, int_at}
use Rattle.cue_relay.specs.Claims.{is_claim, is_printable, is_reason, is_unit, kept, lone_text, name_in, named_at}
use Rattle.cue_relay.specs.Claims.{text_at, who_at, why_at}
use Rattle.cue_relay.specs.Messages.{is_attempt}
use Rattle.cue_relay.specs.Pieces.{◌>>=◌, after}
use Rattle.cue_relay.proofs.MessageLemmas.{decimal_text, is_attempt-number, text-append}
use Rattle.cue_relay.proofs.PieceLemmas.{after-words, words-after}

-- ---- one step after the other

-- what was found in two steps, and the first of them
record Steps (A B : Type 0) (o : Option A) (f : A → Option B) (y : B) : Type 0 where
  first : A
  found : o ≡ Some first
  then_found : f first ≡ Some y

steps : {A B : Type 0} (o : Option A) (f : A → Option B) (y : B) → (o >>= f) ≡ Some y → Steps A B o f y
steps None f y h = absurd (none-some y h)
steps (Some x) f y h = record { first = x; found = refl; then_found = h }

-- what passed
passed : {A : Type 0} (b : Bool) (x y : A) → cond b (Some x) None ≡ Some y → (b ≡ true) × (x ≡ y)
passed true x y h = (refl, same_Some x y h)
passed false x y h = absurd (none-some y h)

-- ---- fields

ok-some : {A : Type 0} (o : Option A) (e : Fault) (x : A) → ok_or o e ≡ Ok x → o ≡ Some x
ok-some (Some y) e x h = cc
ok-some None e x h = absurd cc

text-takes : (bytes t rest : List ℕ) → text_at bytes ≡ Some (t, rest) → bytes ≡ osc_string t ++ rest
unfolding string_at
text-takes bytes t rest h = (string_takes bytes t rest (ap (λ o. ok_or o BadString) h)).0

text-again : (t rest : List ℕ) → IsText t → text_at (osc_string t ++ rest) ≡ Some (t, rest)
unfolding string_at
text-again t rest plain = ok-some (text_at (osc_string t ++ rest)) BadString (t, rest) (string_again t rest plain)

same-number : (bytes : List ℕ) → ok_or (int_at bytes) BadSize ≡ number_at w32 bytes
same-number bytes = by (nat_lt (length bytes) 4)
  where
    found : ℕ × List ℕ
    found = (from_be_bytes w32 (take 4 bytes), drop 4 bytes)

    by : (b : Bool) → ok_or {T = ℕ × List ℕ} (cond b None (Some found)) BadSize ≡ cond b (Err BadSize) (Ok found)
    by true = refl
    by false = refl

int-takes : (bytes : List ℕ) (n : ℕ) (rest : List ℕ) → IsBytes bytes → int_at bytes ≡ Some (n, rest)
    → (bytes ≡ to_be_bytes w32 n ++ rest) × (n < 2 ^ 32)
int-takes bytes n rest fits h =
    number_takes w32 (2 ^ 32) wide32 bytes n rest fits
    (sym (same-number bytes) ∙ ap (λ o. ok_or o BadSize) h)

int-again : (n : ℕ) (rest : List ℕ) → n < 2 ^ 32 → int_at (to_be_bytes w32 n ++ rest) ≡ Some (n, rest)
int-again n rest low =
    ok-some (int_at (to_be_bytes w32 n ++ rest)) BadSize (n, rest)
    (same-number (to_be_bytes w32 n ++ rest) ∙ number_again w32 (2 ^ 32) wide32 n rest low)

empty-is : (bytes : List ℕ) → (length bytes == 0) ≡ true → bytes ≡ []
empty-is [] h = refl
empty-is (b ∷ bs) h = let n : length (b ∷ bs) ≡ 0 = eqb-true (length (b ∷ bs)) 0 h in absurd (omega (arith, n))

lone-takes : (bytes t : List ℕ) → lone_text bytes ≡ Some t → bytes ≡ osc_string t ++ []
unfolding lone_text
lone-takes bytes t h =
    let s = steps (text_at bytes) (λ x. cond (length x.1 == 0) (Some x.0) None) t h in
    let p = passed (length s.first.1 == 0) s.first.0 t s.then_found in
    text-takes bytes s.first.0 s.first.1 s.found
    ∙ ap (λ (x : List ℕ). osc_string s.first.0 ++ x) (empty-is s.first.1 p.0)
    ∙ ap (λ (x : List ℕ). osc_string x ++ []) p.1

lone-again : (t : List ℕ) → IsText t → lone_text (osc_string t ++ []) ≡ Some t
unfolding lone_text
lone-again t plain = rw (text-again t [] plain) refl

signed-fits : (n : ℕ) → n < 2 ^ 32 → FitsSigned w32 (cast_signed w32 n)
signed-fits n low = sfits_to_z {w = w32} {n = n} (Fits-of_lt {w = w32} {n = n} low)

unsigned-low : (z : ℤ) → FitsSigned w32 z → cast_unsigned w32 z < 2 ^ 32
unsigned-low z fits = Fits-lt-pow {w = w32} {n = cast_unsigned w32 z} (Fits-of_z {w = w32} {z = z} fits)

-- ---- what a claim says

-- the last part of its address
abbrev pub name_of : Claim → List ℕ
name_of (Why r) = codes "/why"
name_of (At at goal unit) = codes "/at"
name_of (Who words) = codes "/who"

abbrev tags_of : Claim → List ℕ
tags_of (Why r) = codes ",is"
tags_of (At at goal unit) = codes ",iis"
tags_of (Who words) = codes ",s"

-- and its arguments
abbrev body_of : Claim → List ℕ
body_of (Why r) = to_be_bytes w32 r.seq ++ (osc_string r.words ++ [])
body_of (At at goal unit) = to_be_bytes w32 (cast_unsigned w32 at) ++ (to_be_bytes w32 (cast_unsigned w32 goal)
    ++ (osc_string unit ++ []))
body_of (Who words) = osc_string words ++ []

claim-is : (d : ℕ) (c : Claim)
    → claim_text d c ≡ osc_string (claim_address d (name_of c)) ++ (osc_string (tags_of c) ++ body_of c)
unfolding claim_text
claim-is d (Why r) = refl
claim-is d (At at goal unit) = refl
claim-is d (Who words) = refl

-- the bytes after the tags are those of this claim, and it may be told
record Says (bytes : List ℕ) (c : Claim) : Type 0 where
  may : is_claim c ≡ true
  fits : FitsClaim c
  body : bytes ≡ body_of c

why-takes : (bytes : List ℕ) (c : Claim) → IsBytes bytes → why_at bytes ≡ Some c
    → Says bytes c × (name_of c ≡ codes "/why") × (tags_of c ≡ codes ",is")
unfolding why_at
why-takes bytes c fits h =
    let s = steps (int_at bytes) (λ n. lone_text n.1 >>= λ t.
    cond (is_attempt n.0 && are_words t) (Some (Why (record { seq = n.0; words = t }))) None) c h in
    let u = steps (lone_text s.first.1) (λ t.
    cond (is_attempt s.first.0 && are_words t) (Some (Why (record { seq = s.first.0; words = t }))) None) c
    s.then_found in
    let r : Reason = record { seq = s.first.0; words = u.first } in
    let p = passed (is_attempt s.first.0 && are_words u.first) (Why r) c u.then_found in
    let i = int-takes bytes s.first.0 s.first.1 fits s.found in
    let made : Says bytes (Why r) = record {
      may = p.0;
      fits = tt;
      body = i.0 ∙ ap (λ (x : List ℕ). to_be_bytes w32 s.first.0 ++ x) (lone-takes s.first.1 u.first u.found);
    } in
    subst (λ (x : Claim). Says bytes x × (name_of x ≡ codes "/why") × (tags_of x ≡ codes ",is")) p.1
    (made, refl, refl)

at-takes : (bytes : List ℕ) (c : Claim) → IsBytes bytes → at_at bytes ≡ Some c
    → Says bytes c × (name_of c ≡ codes "/at") × (tags_of c ≡ codes ",iis")
unfolding at_at
at-takes bytes c fits h =
    let s = steps (int_at bytes) (λ a. int_at a.1 >>= λ g. lone_text g.1 >>= λ t.
    cond (is_unit t) (Some (At (cast_signed w32 a.0) (cast_signed w32 g.0) t)) None) c h in
    let i = int-takes bytes s.first.0 s.first.1 fits s.found in
    let more = IsBytes-rest bytes (to_be_bytes w32 s.first.0) s.first.1 i.0 fits in
    let u = steps (int_at s.first.1) (λ g. lone_text g.1 >>= λ t.
    cond (is_unit t) (Some (At (cast_signed w32 s.first.0) (cast_signed w32 g.0) t)) None) c s.then_found in
    let j = int-takes s.first.1 u.first.0 u.first.1 more u.found in
    let v = steps (lone_text u.first.1) (λ t.
    cond (is_unit t) (Some (At (cast_signed w32 s.first.0) (cast_signed w32 u.first.0) t)) None) c u.then_found in
    let at : ℤ = cast_signed w32 s.first.0 in
    let goal : ℤ = cast_signed w32 u.first.0 in
    let p = passed (is_unit v.first) (At at goal v.first) c v.then_found in
    let back_at : cast_unsigned w32 at ≡ s.first.0 = of_z-to_z w32 s.first.0 i.1 in
    let back_goal : cast_unsigned w32 goal ≡ u.first.0 = of_z-to_z w32 u.first.0 j.1 in
    let made : Says bytes (At at goal v.first) = record {
      may = p.0;
      fits = (signed-fits s.first.0 i.1, signed-fits u.first.0 j.1);
      body = i.0
          ∙ ap (λ (x : List ℕ). to_be_bytes w32 s.first.0 ++ x) (j.0
          ∙ ap (λ (x : List ℕ). to_be_bytes w32 u.first.0 ++ x) (lone-takes u.first.1 v.first v.found))
          ∙ ap (λ (n : ℕ). to_be_bytes w32 n ++ (to_be_bytes w32 u.first.0 ++ (osc_string v.first ++ []))) (sym back_at)
          ∙ ap (λ (n : ℕ). to_be_bytes w32 (cast_unsigned w32 at) ++ (to_be_bytes w32 n ++ (osc_string v.first ++ [])))
          (sym back_goal);
    } in
    subst (λ (x : Claim). Says bytes x × (name_of x ≡ codes "/at") × (tags_of x ≡ codes ",iis")) p.1
    (made, refl, refl)

who-takes : (bytes : List ℕ) (c : Claim) → who_at bytes ≡ Some c
    → Says bytes c × (name_of c ≡ codes "/who") × (tags_of c ≡ codes ",s")
unfolding who_at
who-takes bytes c h =
    let s = steps (lone_text bytes) (λ t. cond (are_words t) (Some (Who t)) None) c h in
    let p = passed (are_words s.first) (Who s.first) c s.then_found in
    let made : Says bytes (Who s.first) = record { may = p.0; fits = tt; body = lone-takes bytes s.first s.found } in
    subst (λ (x : Claim). Says bytes x × (name_of x ≡ codes "/who") × (tags_of x ≡ codes ",s")) p.1
    (made, refl, refl)

named-takes : (name tags bytes : List ℕ) (c : Claim) → IsBytes bytes → named_at name tags bytes ≡ Some c
    → Says bytes c × (name ≡ name_of c) × (tags ≡ tags_of c)
unfolding named_at
named-takes name tags bytes c fits h =
    by (same_text name (codes "/why") && same_text tags (codes ",is"))
    (same_text name (codes "/at") && same_text tags (codes ",iis"))
    (same_text name (codes "/who") && same_text tags (codes ",s")) refl refl refl h
  where
    by : (p q r : Bool) → (same_text name (codes "/why") && same_text tags (codes ",is")) ≡ p
        → (same_text name (codes "/at") && same_text tags (codes ",iis")) ≡ q
        → (same_text name (codes "/who") && same_text tags (codes ",s")) ≡ r
        → cond p (why_at bytes) (cond q (at_at bytes) (cond r (who_at bytes) None)) ≡ Some c
        → Says bytes c × (name ≡ name_of c) × (tags ≡ tags_of c)
    by true q r is_p is_q is_r k =
        let t = why-takes bytes c fits k in
        let b = both (same_text name (codes "/why")) (same_text tags (codes ",is")) is_p in
        (t.0, same_text-true name (codes "/why") b.0 ∙ sym t.1, same_text-true tags (codes ",is") b.1 ∙ sym t.2)
    by false true r is_p is_q is_r k =
        let t = at-takes bytes c fits k in
        let b = both (same_text name (codes "/at")) (same_text tags (codes ",iis")) is_q in
        (t.0, same_text-true name (codes "/at") b.0 ∙ sym t.1, same_text-true tags (codes ",iis") b.1 ∙ sym t.2)
    by false false true is_p is_q is_r k =
        let t = who-takes bytes c k in
        let b = both (same_text name (codes "/who")) (same_text tags (codes ",s")) is_r in
        (t.0, same_text-true name (codes "/who") b.0 ∙ sym t.1, same_text-true tags (codes ",s") b.1 ∙ sym t.2)
    by false false false is_p is_q is_r k = absurd (none-some c k)

name-takes : (d : ℕ) (address name : List ℕ) → name_in d address ≡ Some name → address ≡ claim_address d name
unfolding name_in
name-takes d address name h =
    let s = steps (after (codes "/device/") address) (λ rest. after (decimal d) rest) name h in
    words-after (codes "/device/") address s.first s.found
    ∙ ap (λ (x : List ℕ). codes "/device/" ++ x) (words-after (decimal d) s.first name s.then_found)

-- what is found is a claim of the device
claim-takes : (d : ℕ) (bytes : List ℕ) (c : Claim) → IsBytes bytes → claim_in d bytes ≡ Some c → IsClaimOf d bytes c
unfolding claim_in
claim-takes d bytes c fits h =
    let s = steps (text_at bytes) (λ a. name_in d a.0 >>= λ name. text_at a.1 >>= λ t. named_at name t.0 t.1) c h in
    let u = steps (name_in d s.first.0) (λ name. text_at s.first.1 >>= λ t. named_at name t.0 t.1) c s.then_found in
    let v = steps (text_at s.first.1) (λ t. named_at u.first t.0 t.1) c u.then_found in
    let whole = text-takes bytes s.first.0 s.first.1 s.found in
    let more = IsBytes-rest bytes (osc_string s.first.0) s.first.1 whole fits in
    let tagged = text-takes s.first.1 v.first.0 v.first.1 v.found in
    let last = IsBytes-rest s.first.1 (osc_string v.first.0) v.first.1 tagged more in
    let n = named-takes u.first v.first.0 v.first.1 c last v.then_found in
    let address : s.first.0 ≡ claim_address d (name_of c) =
    name-takes d s.first.0 u.first u.found ∙ ap (claim_address d) n.1 in
    record {
      may_tell = n.0.may;
      fits = n.0.fits;
      spelled = whole
          ∙ ap (λ (x : List ℕ). osc_string x ++ s.first.1) address
          ∙ ap (λ (x : List ℕ). osc_string (claim_address d (name_of c)) ++ x) (tagged
          ∙ ap (λ (x : List ℕ). osc_string x ++ v.first.1) n.2
          ∙ ap (λ (x : List ℕ). osc_string (tags_of c) ++ x) n.0.body)
          ∙ sym (claim-is d c);
    }

-- ---- and a claim of the device is found

printable-text : (bs : List ℕ) → list_all is_printable bs ≡ true → IsText bs
printable-text [] h = tt
printable-text (b ∷ bs) h =
    let parts = both (is_printable b) (list_all is_printable bs) h in
    let low = both (nat_le 32 b) (nat_le b 126) parts.0 in
    (omega (arith, leb-true 32 b low.0), printable-text bs parts.1)

pub words-text : (w : List ℕ) → are_words w ≡ true → IsText w
words-text w h =
    let more = both (nat_le 1 (length w)) (nat_le (length w) MAX_WORDS && list_all is_printable w) h in
    printable-text w (both (nat_le (length w) MAX_WORDS) (list_all is_printable w) more.1).1

pub unit-text : (u : List ℕ) → is_unit u ≡ true → IsText u
unit-text u h = printable-text u (both (nat_le (length u) MAX_UNIT) (list_all is_printable u) h).1

why-again : (r : Reason) → is_reason r ≡ true → why_at (body_of (Why r)) ≡ Some (Why r)
unfolding why_at
why-again r may =
    let parts = both (is_attempt r.seq) (are_words r.words) may in
    let number = is_attempt-number r.seq parts.0 in
    rw (
      int-again r.seq (osc_string r.words ++ []) (omega (arith, number)),
      lone-again r.words (words-text r.words parts.1),
      may,
    ) refl

at-again : (at goal : ℤ) (unit : List ℕ) → is_unit unit ≡ true → FitsSigned w32 at → FitsSigned w32 goal
    → at_at (body_of (At at goal unit)) ≡ Some (At at goal unit)
unfolding at_at
at-again at goal unit may fits_at fits_goal =
    let a : ℕ = cast_unsigned w32 at in
    let g : ℕ = cast_unsigned w32 goal in
    rw (
      int-again a (to_be_bytes w32 g ++ (osc_string unit ++ [])) (unsigned-low at fits_at),
      int-again g (osc_string unit ++ []) (unsigned-low goal fits_goal),
      lone-again unit (unit-text unit may),
      may,
      to_z-of_z w32 at fits_at,
      to_z-of_z w32 goal fits_goal,
    ) refl

who-again : (w : List ℕ) → are_words w ≡ true → who_at (body_of (Who w)) ≡ Some (Who w)
unfolding who_at
who-again w may = rw (lone-again w (words-text w may), may) refl

named-again : (c : Claim) → is_claim c ≡ true → FitsClaim c → named_at (name_of c) (tags_of c) (body_of c) ≡ Some c
unfolding named_at
named-again (Why r) may fits = why-again r may
named-again (At at goal unit) may fits = at-again at goal unit may fits.0 fits.1
named-again (Who words) may fits = who-again words may

name-text : (c : Claim) → IsText (name_of c)
name-text (Why r) = search rules
name-text (At at goal unit) = search rules
name-text (Who words) = search rules

tags-text : (c : Claim) → IsText (tags_of c)
tags-text (Why r) = search rules
tags-text (At at goal unit) = search rules
tags-text (Who words) = search rules

pub address-text : (d : ℕ) (c : Claim) → IsText (claim_address d (name_of c))
address-text d c =
    text-append (codes "/device/") (decimal d ++ name_of c) (search rules)
    (text-append (decimal d) (name_of c) (decimal_text d) (name-text c))

name-again : (d : ℕ) (name : List ℕ) → name_in d (claim_address d name) ≡ Some name
unfolding name_in
name-again d name = rw (after-words (codes "/device/") (decimal d ++ name), after-words (decimal d) name) refl

claim-again : (d : ℕ) (c : Claim) → is_claim c ≡ true → FitsClaim c → claim_in d (claim_text d c) ≡ Some c
unfolding claim_in
claim-again d c may fits =
    ap (claim_in d) (claim-is d c)
    ∙ rw (
      text-again (claim_address d (name_of c)) (osc_string (tags_of c) ++ body_of c) (address-text d c),
      name-again d (name_of c),
      text-again (tags_of c) (body_of c) (tags-text c),
      named-again c may fits,
    ) refl

-- ---- both

pub claim-found : (d : ℕ) (bytes : List ℕ) (o : Option Claim) → IsBytes bytes → o ≡ claim_in d bytes
    → IfSome o (λ c. IsClaimOf d bytes c)
claim-found d bytes None fits h = tt
claim-found d bytes (Some c) fits h = claim-takes d bytes c fits (sym h)

pub claim-none : (d : ℕ) (bytes : List ℕ) (o : Option Claim) → o ≡ claim_in d bytes
    → IfNone o ((c : Claim) → IsClaimOf d bytes c → ⊥)
claim-none d bytes (Some c) h = tt
claim-none d bytes None h = λ c is.
    absurd (none-some c (h ∙ ap (claim_in d) is.spelled ∙ claim-again d c is.may_tell is.fits))
