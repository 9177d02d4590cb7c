-- A field that is read is the field that was written, and what was written is read again.
use Rattle.std.proofs.Common.{◌≡◌, ℕ, ℤ, zero, suc, ◌+◌, ◌-◌, ◌%◌, ◌^◌, ◌<◌, ◌≤◌, Bool, true, false, cond, not, ◌||◌}
use Rattle.std.proofs.Common.{eqb, ltb, List, [], ◌∷◌, ◌++◌, length, get_or, take, drop, replicate, Option, Some, None}
use Rattle.std.proofs.Common.{Result, Ok, Err, refl, sym, ap, subst, ◌∙◌, append_assoc, arith, inl, inr, ◌⊎◌}
use Rattle.std.specs.Option.{ok_or}
use Rattle.std.specs.Int.{Width, w32, w64, byte_len, from_be_bytes, to_be_bytes, cast_signed, cast_unsigned}
use Rattle.std.proofs.lemmas.Bool.{and_parts, cases_lt, ltb-true, ltb-false, le-ltb, lt-ltb, eqb-true}
use Rattle.std.proofs.lemmas.List.{take_at, drop_at, take-append-drop, length-append, length-take, length-replicate}
use Rattle.std.proofs.lemmas.List.{get_or-drop, get_or-take, get_or_past}
use Rattle.std.proofs.lemmas.Int.{of_z-to_z, to_z-of_z}
use Rattle.std.proofs.Math.Facts.{sfits_to_z, Fits-of_z, Fits-of_lt, Fits-lt-pow}
use Rattle.std.proofs.lemmas.Nat.{be_bytes_4, be_bytes_8, from_be_bytes-to_be_bytes_4, from_be_bytes-to_be_bytes_8}
use Rattle.cue_osc.specs.declared.fault.Fault.{Fault}
use Rattle.cue_osc.specs.declared.fault.Fault.TheVariants.{BadString, BadBlob}
use Rattle.cue_osc.specs.Argument.{Argument, int, text, blob}
use Rattle.cue_osc.specs.Spelling.{padding, osc_string, osc_blob, IsText, tag, argument, Fits, is_known_tag}
use Rattle.cue_osc.specs.Reading.{◌>>=◌, are_zeros, text_len, number_at, padded_at, string_at, blob_at, arg_at}
use Rattle.cue_osc.proofs.LoopLemmas.{bind_ok, number_is}
use Rattle.cue_osc.proofs.PlainLemmas.{not_null, is_not_null}

abbrev pub IsBytes : List ℕ → Type 0
IsBytes bytes = (i : ℕ) → get_or bytes i 0 < 256

pub IsBytes-drop : (n : ℕ) (bytes : List ℕ) → IsBytes bytes → IsBytes (drop n bytes)
IsBytes-drop n bytes h i = rw get_or-drop (h (n + i))

pub IsBytes-take : (n : ℕ) (bytes : List ℕ) → IsBytes bytes → IsBytes (take n bytes)
IsBytes-take n bytes h i =
    elim (cases_lt i n) [
      | inl lt ↦ rw (get_or-take n bytes i 0 lt) (h i)
      | inr le ↦ rw (get_or_past (take n bytes) i 0 (omega (arith, length-take n bytes))) (omega arith)
    ]

-- what stands behind a front
pub IsBytes-rest : (bytes front rest : List ℕ) → bytes ≡ front ++ rest → IsBytes bytes → IsBytes rest
IsBytes-rest bytes front rest e h =
    let d : drop (length front) bytes ≡ rest = ap (drop (length front)) e ∙ drop_at front rest (length front) refl in
    subst IsBytes d (IsBytes-drop (length front) bytes h)

abbrev done : {A : Type 0} → A → Result A Fault
done x = Ok x

pub ok_is : {A : Type 0} (x y : A) → done x ≡ done y → x ≡ y
ok_is x y e = cc

some_is : {A : Type 0} (x y : A) → Some x ≡ Some y → x ≡ y
some_is x y e = cc

-- the branch that was taken
pub then_ok : {A : Type 0} (b : Bool) (d : Fault) (r : Result A Fault) (y : A) → cond b r (Err d) ≡ Ok y
    → (b ≡ true) × (r ≡ Ok y)
then_ok true d r y e = (refl, e)
then_ok false d r y e = absurd cc

pub else_ok : {A : Type 0} (b : Bool) (d : Fault) (r : Result A Fault) (y : A) → cond b (Err d) r ≡ Ok y
    → (b ≡ false) × (r ≡ Ok y)
else_ok true d r y e = absurd cc
else_ok false d r y e = (refl, e)

pub chosen : {A : Type 0} (b : Bool) (x y z : A) → cond b x y ≡ z → ((b ≡ true) × (x ≡ z)) ⊎ ((b ≡ false) × (y ≡ z))
chosen true x y z e = inl (refl, e)
chosen false x y z e = inr (refl, e)

else_some : {A : Type 0} (b : Bool) (o : Option A) (x : A) → cond b None o ≡ Some x → (b ≡ false) × (o ≡ Some x)
else_some true o x e = absurd cc
else_some false o x e = (refl, e)

then_some : {A : Type 0} (b : Bool) (x y : A) → cond b (Some x) None ≡ Some y → (b ≡ true) × (x ≡ y)
then_some true x y e = (refl, cc)
then_some false x y e = absurd cc

ok_or_ok : {A : Type 0} (o : Option A) (d : Fault) (x : A) → ok_or o d ≡ Ok x → o ≡ Some x
ok_or_ok (Some y) d x e = cc
ok_or_ok None d x e = absurd cc

-- ---- numbers

pub record IsWide (w : Width) (limit : ℕ) : Type 0 where
  pub len : (n : ℕ) → length (to_be_bytes w n) ≡ byte_len w
  pub back : (bytes : List ℕ) → length bytes ≡ byte_len w → IsBytes bytes
      → to_be_bytes w (from_be_bytes w bytes) ≡ bytes
  pub again : (n : ℕ) → n < limit → from_be_bytes w (to_be_bytes w n) ≡ n
  pub below : (bytes : List ℕ) → IsBytes bytes → from_be_bytes w bytes < limit

pub wide32 : IsWide w32 (2 ^ 32)
wide32 = record {
  len = λ n. refl;
  back = λ bytes len fits. be_bytes_4 bytes _ len fits refl;
  again = λ n lt. from_be_bytes-to_be_bytes_4 n lt;
  below = λ bytes fits. omega (arith, fits 0, fits 1, fits 2, fits 3);
}

pub wide64 : IsWide w64 (2 ^ 64)
wide64 = record {
  len = λ n. refl;
  back = λ bytes len fits. be_bytes_8 bytes _ len fits refl;
  again = λ n lt. from_be_bytes-to_be_bytes_8 n lt;
  below = λ bytes fits. omega (arith, fits 0, fits 1, fits 2, fits 3, fits 4, fits 5, fits 6, fits 7);
}

pub number_takes : (w : Width) (limit : ℕ) (wide : IsWide w limit) (bytes : List ℕ) (n : ℕ) (rest : List ℕ)
    → IsBytes bytes → number_at w bytes ≡ Ok (n, rest) → (bytes ≡ to_be_bytes w n ++ rest) × (n < limit)
number_takes w limit wide bytes n rest fits e =
    let g = number_is w bytes (n, rest) e in
    let long : byte_len w ≤ length bytes = g.0 in
    let n-is : from_be_bytes w (take (byte_len w) bytes) ≡ n = g.1 in
    let rest-is : drop (byte_len w) bytes ≡ rest = g.2 in
    let front : to_be_bytes w n ≡ take (byte_len w) bytes =
    rw (← n-is) (wide.back (take (byte_len w) bytes) (omega (arith, length-take (byte_len w) bytes))
    (IsBytes-take (byte_len w) bytes fits)) in (
      rw (front, ← rest-is) (sym (take-append-drop (byte_len w) bytes)),
      rw (← n-is)
          (wide.below (take (byte_len w) bytes) (IsBytes-take (byte_len w) bytes fits)),
    )

pub number_again : (w : Width) (limit : ℕ) (wide : IsWide w limit) (n : ℕ) (rest : List ℕ) → n < limit
    → number_at w (to_be_bytes w n ++ rest) ≡ Ok (n, rest)
number_again w limit wide n rest lt =
    let len = wide.len n in
    let long : ltb (length (to_be_bytes w n ++ rest)) (byte_len w) ≡ false =
    le-ltb _ _ (omega (arith, length-append (to_be_bytes w n) rest)) in
    rw (
      long,
      take_at (to_be_bytes w n) rest (byte_len w) len,
      drop_at (to_be_bytes w n) rest (byte_len w) len,
      wide.again n lt,
    ) refl

-- ---- bytes and zeros

zeros_are : (bs : List ℕ) → are_zeros bs ≡ true → bs ≡ replicate (length bs) 0
zeros_are [] h = refl
zeros_are (b ∷ bs) h =
    let p = and_parts (eqb b 0) (are_zeros bs) h in
    let b-is : b ≡ 0 = eqb-true b 0 p.0 in
    ap (λ (c : ℕ). c ∷ bs) b-is ∙ ap (λ (cs : List ℕ). 0 ∷ cs) (zeros_are bs p.1)

are_zeros-replicate : (n : ℕ) → are_zeros (replicate n 0) ≡ true
are_zeros-replicate zero = refl
are_zeros-replicate (suc n) = are_zeros-replicate n

-- so many bytes and so many zeros, from the front
pub record IsPadded (n k : ℕ) (bytes content rest : List ℕ) : Type 0 where
  pub len : length content ≡ n
  pub front : content ≡ take n bytes
  pub parts : bytes ≡ content ++ (replicate k 0 ++ rest)

pub padded_takes : (n k : ℕ) (bytes : List ℕ) (x : List ℕ × List ℕ) → padded_at n k bytes ≡ Some x
    → IsPadded n k bytes x.0 x.1
unfolding padded_at
padded_takes n k bytes x e =
    let a = else_some (ltb (length bytes) n)
    (cond (ltb (length (drop n bytes)) k) None
    (cond (are_zeros (take k (drop n bytes))) (Some (take n bytes, drop k (drop n bytes))) None)) x e in
    let b = else_some (ltb (length (drop n bytes)) k)
    (cond (are_zeros (take k (drop n bytes))) (Some (take n bytes, drop k (drop n bytes))) None) x a.1 in
    let c = then_some (are_zeros (take k (drop n bytes))) (take n bytes, drop k (drop n bytes)) x b.1 in
    let long : n ≤ length bytes = ltb-false _ _ a.0 in
    let room : k ≤ length (drop n bytes) = ltb-false _ _ b.0 in
    let zeros : take k (drop n bytes) ≡ replicate k 0 = zeros_are (take k (drop n bytes)) c.0
    ∙ ap (λ m. replicate m 0) (omega (arith, length-take k (drop n bytes))) in
    let made : IsPadded n k bytes (take n bytes) (drop k (drop n bytes)) = record {
      len = omega (arith, length-take n bytes);
      front = refl;
      parts = sym (take-append-drop n bytes)
          ∙ ap (λ (t : List ℕ). take n bytes ++ t) (sym (take-append-drop k (drop n bytes))
          ∙ ap (λ (t : List ℕ). t ++ drop k (drop n bytes)) zeros);
    } in
    subst (λ (y : List ℕ × List ℕ). IsPadded n k bytes y.0 y.1) c.1 made

pub padded_again : (content rest : List ℕ) (k : ℕ)
    → padded_at (length content) k (content ++ (replicate k 0 ++ rest)) ≡ Some (content, rest)
unfolding padded_at
padded_again content rest k =
    let zeros = replicate k 0 in
    let len : length zeros ≡ k = length-replicate k 0 in
    let long : ltb (length (content ++ (zeros ++ rest))) (length content) ≡ false =
    le-ltb _ _ (omega (arith, length-append content (zeros ++ rest))) in
    let behind : drop (length content) (content ++ (zeros ++ rest)) ≡ zeros ++ rest =
    drop_at content (zeros ++ rest) (length content) refl in
    let room : ltb (length (zeros ++ rest)) k ≡ false = le-ltb _ _ (omega (arith, length-append zeros rest)) in
    rw (
      long,
      behind,
      room,
      take_at zeros rest k len,
      are_zeros-replicate k,
      take_at content (zeros ++ rest)
          (length content) refl,
      drop_at zeros rest k len,
    ) refl

-- ---- strings

text_before_at : (b : ℕ) (bs : List ℕ) (v : Bool) → not (eqb b 0) ≡ v → IsText (take (text_len bs) bs)
    → IsText (take (cond v (1 + text_len bs) 0) (b ∷ bs))
text_before_at b bs true e ih = let k : 1 + text_len bs ≡ suc (text_len bs) = omega arith in rw k (not_null b e, ih)
text_before_at b bs false e ih = tt

-- no null stands before the first null
text_before : (bytes : List ℕ) → IsText (take (text_len bytes) bytes)
text_before [] = tt
text_before (b ∷ bs) = text_before_at b bs (not (eqb b 0)) refl (text_before bs)

-- the first null is the one behind the text
text_len-again : (t rest : List ℕ) → IsText t → text_len (t ++ (0 ∷ rest)) ≡ length t
text_len-again [] rest h = refl
text_len-again (b ∷ bs) rest h = rw (is_not_null b h.0, text_len-again bs rest h.1) (omega arith)

pub string_takes : (bytes t rest : List ℕ) → string_at bytes ≡ Ok (t, rest) → (bytes ≡ osc_string t ++ rest) × IsText t
unfolding string_at
string_takes bytes t rest e =
    let n = text_len bytes in
    let p = padded_takes n (4 - n % 4) bytes (t, rest)
    (ok_or_ok (padded_at n (4 - n % 4) bytes) BadString (t, rest) e) in
    let parts : bytes ≡ t ++ (replicate (4 - length t % 4) 0 ++ rest) = p.parts
    ∙ ap (λ (m : ℕ). t ++ (replicate (4 - m % 4) 0 ++ rest)) (sym p.len) in
    (parts ∙ sym (append_assoc t (replicate (4 - length t % 4) 0) rest), subst IsText (sym p.front) (text_before bytes))

pub string_again : (t rest : List ℕ) → IsText t → string_at (osc_string t ++ rest) ≡ Ok (t, rest)
unfolding string_at
string_again t rest h =
    let k = 4 - length t % 4 in
    let one : k ≡ suc (k - 1) = omega arith in
    let regrouped : osc_string t ++ rest ≡ t ++ (replicate k 0 ++ rest) = append_assoc t (replicate k 0) rest in
    let null : t ++ (replicate k 0 ++ rest) ≡ t ++ (0 ∷ (replicate (k - 1) 0 ++ rest)) =
    ap (λ (m : ℕ). t ++ (replicate m 0 ++ rest)) one in
    let len : text_len (osc_string t ++ rest) ≡ length t = ap text_len (regrouped ∙ null)
    ∙ text_len-again t (replicate (k - 1) 0 ++ rest) h in
    let found : padded_at (length t) k (osc_string t ++ rest) ≡ Some (t, rest) = ap (padded_at (length t) k) regrouped
    ∙ padded_again t rest k in
    rw (len, found) refl

-- ---- blobs

pub blob_takes : (bytes b rest : List ℕ) → IsBytes bytes → blob_at bytes ≡ Ok (b, rest) → (bytes ≡ osc_blob b ++ rest)
    × (length b < 2 ^ 31)
unfolding blob_at
blob_takes bytes b rest fits e =
    let c = bind_ok (number_at w32 bytes)
    (λ count. cond (ltb count.0 (2 ^ 31)) (ok_or (padded_at count.0 (padding count.0) count.1) BadBlob)
    (Err BadBlob)) (b, rest) e in
    let n = c.0.0 in
    let t = number_takes w32 (2 ^ 32) wide32 bytes n c.0.1 fits c.1 in
    let g = then_ok (ltb n (2 ^ 31)) BadBlob (ok_or (padded_at n (padding n) c.0.1) BadBlob) (b, rest) c.2 in
    let p = padded_takes n (padding n) c.0.1 (b, rest)
    (ok_or_ok (padded_at n (padding n) c.0.1) BadBlob (b, rest) g.1) in
    let lt : n < 2 ^ 31 = ltb-true n (2 ^ 31) g.0 in
    let count : to_be_bytes w32 n ≡ to_be_bytes w32 (length b) = ap (to_be_bytes w32) (sym p.len) in
    let zeros : replicate (padding n) 0 ≡ replicate (padding (length b)) 0 =
    ap (λ (m : ℕ). replicate (padding m) 0) (sym p.len) in
    let front = to_be_bytes w32 (length b) in
    let back = replicate (padding (length b)) 0 in
    let grouped : osc_blob b ++ rest ≡ front ++ (b ++ (back ++ rest)) = append_assoc front (b ++ back) rest
    ∙ ap (λ (x : List ℕ). front ++ x) (append_assoc b back rest) in
    let behind : c.0.1 ≡ b ++ (back ++ rest) = p.parts ∙ ap (λ (z : List ℕ). b ++ (z ++ rest)) zeros in (
      t.0 ∙ ap (λ (f : List ℕ). f ++ c.0.1) count ∙ ap (λ (x : List ℕ). front ++ x) behind
          ∙ sym grouped,
      subst (λ (m : ℕ). m < 2 ^ 31) (sym p.len) lt,
    )

pub blob_again : (b rest : List ℕ) → length b < 2 ^ 31 → blob_at (osc_blob b ++ rest) ≡ Ok (b, rest)
unfolding blob_at
blob_again b rest lt =
    let front = to_be_bytes w32 (length b) in
    let back = replicate (padding (length b)) 0 in
    let grouped : osc_blob b ++ rest ≡ front ++ (b ++ (back ++ rest)) = append_assoc front (b ++ back) rest
    ∙ ap (λ (x : List ℕ). front ++ x) (append_assoc b back rest) in
    let count : number_at w32 (osc_blob b ++ rest) ≡ Ok (length b, b ++ (back ++ rest)) = ap (number_at w32) grouped
    ∙ number_again w32 (2 ^ 32) wide32 (length b) (b ++ (back ++ rest)) (omega arith) in
    let small : ltb (length b) (2 ^ 31) ≡ true = lt-ltb (length b) (2 ^ 31) lt in
    rw (count, small, padded_again b rest (padding (length b))) refl

-- ---- arguments

-- an argument was taken from the front
pub record TakesArg (kind : ℕ) (bytes : List ℕ) (x : Argument) (rest : List ℕ) : Type 0 where
  pub parts : bytes ≡ argument x ++ rest
  pub fits : Fits x
  pub kind_is : tag x ≡ kind

int_takes : (bytes : List ℕ) (x : Argument × List ℕ) → IsBytes bytes
    → (number_at w32 bytes >>= λ number. Ok (int (cast_signed w32 number.0), number.1)) ≡ Ok x
    → TakesArg 105 bytes x.0 x.1
int_takes bytes x fits e =
    let b = bind_ok (number_at w32 bytes) (λ number. Ok (int (cast_signed w32 number.0), number.1)) x e in
    let t = number_takes w32 (2 ^ 32) wide32 bytes b.0.0 b.0.1 fits b.1 in
    let back : cast_unsigned w32 (cast_signed w32 b.0.0) ≡ b.0.0 = of_z-to_z w32 b.0.0 t.1 in
    let made : TakesArg 105 bytes (int (cast_signed w32 b.0.0)) b.0.1 =
    record {
      parts = rw back t.0;
      fits = sfits_to_z {w = w32} {n = b.0.0} (Fits-of_lt {w = w32} {n = b.0.0} t.1);
      kind_is = refl;
    } in
    subst (λ (y : Argument × List ℕ). TakesArg 105 bytes y.0 y.1) (ok_is (int (cast_signed w32 b.0.0), b.0.1) x b.2)
    made

text_takes : (bytes : List ℕ) (x : Argument × List ℕ) → (string_at bytes >>= λ found. Ok (text found.0, found.1)) ≡ Ok x
    → TakesArg 115 bytes x.0 x.1
text_takes bytes x e =
    let b = bind_ok (string_at bytes) (λ found. Ok (text found.0, found.1)) x e in
    let t = string_takes bytes b.0.0 b.0.1 b.1 in
    let made : TakesArg 115 bytes (text b.0.0) b.0.1 = record { parts = t.0; fits = t.1; kind_is = refl } in
    subst (λ (y : Argument × List ℕ). TakesArg 115 bytes y.0 y.1) (ok_is (text b.0.0, b.0.1) x b.2) made

blob_arg_takes : (bytes : List ℕ) (x : Argument × List ℕ) → IsBytes bytes
    → (blob_at bytes >>= λ found. Ok (blob found.0, found.1)) ≡ Ok x → TakesArg 98 bytes x.0 x.1
blob_arg_takes bytes x fits e =
    let b = bind_ok (blob_at bytes) (λ found. Ok (blob found.0, found.1)) x e in
    let t = blob_takes bytes b.0.0 b.0.1 fits b.1 in
    let made : TakesArg 98 bytes (blob b.0.0) b.0.1 = record { parts = t.0; fits = t.1; kind_is = refl } in
    subst (λ (y : Argument × List ℕ). TakesArg 98 bytes y.0 y.1) (ok_is (blob b.0.0, b.0.1) x b.2) made

-- a tag that is neither i nor s is b
last_tag : (kind : ℕ) → is_known_tag kind ≡ true → eqb kind 105 ≡ false → eqb kind 115 ≡ false → kind ≡ 98
last_tag kind known e f =
    eqb-true kind 98 (sym (ap (λ (b : Bool). b || (eqb kind 115 || eqb kind 98)) e
    ∙ ap (λ (b : Bool). b || eqb kind 98) f) ∙ known)

pub arg_takes : (kind : ℕ) (bytes : List ℕ) (x : Argument × List ℕ) → is_known_tag kind ≡ true → IsBytes bytes
    → arg_at kind bytes ≡ Ok x → TakesArg kind bytes x.0 x.1
unfolding arg_at
arg_takes kind bytes x known fits e =
    let as_int : Result (Argument × List ℕ) Fault =
    number_at w32 bytes >>= λ number. Ok (int (cast_signed w32 number.0), number.1) in
    let as_text : Result (Argument × List ℕ) Fault = string_at bytes >>= λ found. Ok (text found.0, found.1) in
    let as_blob : Result (Argument × List ℕ) Fault = blob_at bytes >>= λ found. Ok (blob found.0, found.1) in
    elim (chosen (eqb kind 105) as_int (cond (eqb kind 115) as_text as_blob) (Ok x) e) [
      | inl p ↦ subst (λ (k : ℕ). TakesArg k bytes x.0 x.1) (sym (eqb-true kind 105 p.0)) (int_takes bytes x fits p.1)
      | inr p ↦ elim (chosen (eqb kind 115) as_text as_blob (Ok x) p.1) [
        | inl q ↦ subst (λ (k : ℕ). TakesArg k bytes x.0 x.1) (sym (eqb-true kind 115 q.0)) (text_takes bytes x q.1)
        | inr q ↦ subst (λ (k : ℕ). TakesArg k bytes x.0 x.1) (sym (last_tag kind known p.0 q.0))
            (blob_arg_takes bytes x fits q.1)
      ]
    ]

pub arg_again : (x : Argument) (rest : List ℕ) → Fits x → arg_at (tag x) (argument x ++ rest) ≡ Ok (x, rest)
unfolding arg_at
arg_again (int z) rest h =
    let n = cast_unsigned w32 z in
    let read : number_at w32 (to_be_bytes w32 n ++ rest) ≡ Ok (n, rest) =
    number_again w32 (2 ^ 32) wide32 n rest (Fits-lt-pow {w = w32} {n = n} (Fits-of_z {w = w32} {z = z} h)) in
    let as_int : Result (ℕ × List ℕ) Fault → Result (Argument × List ℕ) Fault =
    λ r. r >>= λ number. Ok (int (cast_signed w32 number.0), number.1) in
    ap as_int read ∙ ap (λ (y : ℤ). done (int y, rest)) (to_z-of_z w32 z h)
arg_again (text t) rest h = rw (string_again t rest h) refl
arg_again (blob b) rest h = rw (blob_again b rest h) refl

pub known_tag : (x : Argument) → is_known_tag (tag x) ≡ true
known_tag (int z) = refl
known_tag (text t) = refl
known_tag (blob b) = refl

pub tag_is_text : (x : Argument) → 0 < tag x
tag_is_text (int z) = omega arith
tag_is_text (text t) = omega arith
tag_is_text (blob b) = omega arith
