-- A value is written one character after the other, and a reader finds what was written.
use Rattle.std.proofs.Common.{◌≡◌, ◌∙◌, ◌<◌, ◌≤◌, ◌+◌, ℕ, List, [], ◌∷◌, ◌++◌, length, get_or, drop, encode_utf8_all}
use Rattle.std.proofs.Common.{Bool, true, false, ◌==◌, ◌/◌, ◌%◌, map, suc, zero, refl, sym, ap, subst, arith}
use Rattle.std.proofs.Common.{append_assoc, append-nil, string_bytes}
use Rattle.std.specs.Prelude.{String, Some, nat_lt}
use Rattle.std.specs.Char.{encode_utf8}
use Rattle.std.specs.List.{flat_map}
use Rattle.std.specs.Str.{chars}
use Rattle.std.specs.declared.alloc.Global.{Global}
use Rattle.std.proofs.lemmas.Bool.{eqb-true, ne_eqb}
use Rattle.std.proofs.lemmas.List.{at_drop_all, at_drop_more}
use Rattle.cue_words.specs.Signs.{shown}
use Rattle.cue_report.specs.Csv.{CellsAreReadBack, doubled, is_formula, read_row, read_value, row_of, sign_of, values_of}
use Rattle.cue_report.specs.Csv.{value_in, value_of, values_after, values_in, with_sign, with_value}

-- ---- one character after the other

pub encode-append : (xs ys : List ℕ) → encode_utf8_all (xs ++ ys) ≡ encode_utf8_all xs ++ encode_utf8_all ys
encode-append [] ys = refl
encode-append (x ∷ xs) ys =
    ap (λ t. encode_utf8 x ++ t) (encode-append xs ys)
    ∙ sym (append_assoc (encode_utf8 x) (encode_utf8_all xs) (encode_utf8_all ys))

-- what a loop over the characters has put there, and what it will put there of the others, is the whole
abbrev pub IsWay : ℕ → List ℕ → List ℕ → List ℕ → Type 0
IsWay n cs text whole = text ++ encode_utf8_all (flat_map sign_of (drop n cs)) ≡ whole

pub way-push : (n m c : ℕ) (cs text new whole : List ℕ) → (n < length cs) × (c ≡ get_or cs n c) → m ≡ n + 1
    → new ≡ text ++ encode_utf8_all (sign_of c) → IsWay n cs text whole → IsWay m cs new whole
way-push n m c cs text new whole h next grown way =
    let rest : List ℕ = drop (n + 1) cs in
    let more = at_drop_more (flat_map sign_of) cs n c h.0 ∙ ap (λ x. flat_map sign_of (x ∷ rest)) (sym h.1) in
    ap (λ k. new ++ encode_utf8_all (flat_map sign_of (drop k cs))) next
    ∙ (ap (λ t. t ++ encode_utf8_all (flat_map sign_of rest)) grown
    ∙ (append_assoc text (encode_utf8_all (sign_of c)) (encode_utf8_all (flat_map sign_of rest))
    ∙ (ap (λ t. text ++ t) (sym (encode-append (sign_of c) (flat_map sign_of rest)))
    ∙ (ap (λ t. text ++ encode_utf8_all t) (sym more) ∙ way))))

pub way-end : (n : ℕ) (cs text whole : List ℕ) → length cs ≤ n → IsWay n cs text whole → text ≡ whole
way-end n cs text whole h way =
    sym (append-nil text) ∙ ap (λ l. text ++ encode_utf8_all l) (sym (at_drop_all (flat_map sign_of) cs n h)) ∙ way

-- ---- the bytes of a character: none but that of a quotation mark is doubled

flat_map-append : (xs ys : List ℕ) → flat_map doubled (xs ++ ys) ≡ flat_map doubled xs ++ flat_map doubled ys
flat_map-append [] ys = refl
flat_map-append (x ∷ xs) ys =
    ap (λ t. doubled x ++ t) (flat_map-append xs ys)
    ∙ sym (append_assoc (doubled x) (flat_map doubled xs) (flat_map doubled ys))

doubled-plain : (b : ℕ) → (b == 34) ≡ false → doubled b ≡ b ∷ []
doubled-plain b e = rw e refl

high : (n x : ℕ) → 34 < n → ((n + x) == 34) ≡ false
high n x h = ne_eqb (n + x) 34 (λ e. omega arith)

doubled-bytes : (s : ℕ) → (s == 34) ≡ false → flat_map doubled (encode_utf8 s) ≡ encode_utf8 s
unfolding encode_utf8
doubled-bytes s e = by (nat_lt s 128) (nat_lt s 2048) (nat_lt s 65536) refl refl refl
  where
    by : (p q r : Bool) → nat_lt s 128 ≡ p → nat_lt s 2048 ≡ q → nat_lt s 65536 ≡ r → flat_map doubled (encode_utf8 s) ≡ encode_utf8 s
    by true q r ip iq ir = rw ip (rw e refl)
    by false true r ip iq ir = rw (ip, iq) (rw (high 192 (s / 64) (omega arith), high 128 (s % 64) (omega arith)) refl)
    by false false true ip iq ir =
        rw (ip, iq, ir)
        (rw (high 224 (s / 4096) (omega arith), high 128 (s / 64 % 64) (omega arith), high 128 (s % 64) (omega arith)) refl)
    by false false false ip iq ir =
        rw (ip, iq, ir)
        (rw (high 240 (s / 262144) (omega arith), high 128 (s / 4096 % 64) (omega arith), high 128 (s / 64 % 64) (omega arith), high 128 (s % 64) (omega arith)) refl)

doubled-sign : (s : ℕ) → encode_utf8_all (doubled s) ≡ flat_map doubled (encode_utf8 s)
unfolding encode_utf8
doubled-sign s = by (s == 34) refl
  where
    by : (b : Bool) → (s == 34) ≡ b → encode_utf8_all (doubled s) ≡ flat_map doubled (encode_utf8 s)
    by true e = let is : s ≡ 34 = eqb-true s 34 e in subst (λ n. encode_utf8_all (doubled n) ≡ flat_map doubled (encode_utf8 n)) (sym is) refl
    by false e = ap encode_utf8_all (doubled-plain s e) ∙ (append-nil (encode_utf8 s) ∙ sym (doubled-bytes s e))

doubled-signs : (cs : List ℕ) → encode_utf8_all (flat_map sign_of cs) ≡ flat_map doubled (encode_utf8_all (map shown cs))
doubled-signs [] = refl
doubled-signs (c ∷ cs) =
    encode-append (sign_of c) (flat_map sign_of cs)
    ∙ (ap (λ t. t ++ encode_utf8_all (flat_map sign_of cs)) (doubled-sign (shown c))
    ∙ (ap (λ t. flat_map doubled (encode_utf8 (shown c)) ++ t) (doubled-signs cs)
    ∙ sym (flat_map-append (encode_utf8 (shown c)) (encode_utf8_all (map shown cs)))))

-- ---- a reader finds a value

value_of-is : (text : List ℕ) → value_of text ≡ 34 ∷ (flat_map doubled (read_value text) ++ 34 ∷ [])
unfolding value_of
value_of-is text = by (is_formula text) refl
  where
    by : (b : Bool) → is_formula text ≡ b → value_of text ≡ 34 ∷ (flat_map doubled (read_value text) ++ 34 ∷ [])
    by true e = rw e (ap (λ t. 34 ∷ 39 ∷ (t ++ 34 ∷ [])) (doubled-signs (chars text)))
    by false e = rw e (ap (λ t. 34 ∷ (t ++ 34 ∷ [])) (doubled-signs (chars text)))

value_in-plain : (b : ℕ) (text : List ℕ) → (b == 34) ≡ false → value_in (b ∷ text) ≡ with_sign b (value_in text)
value_in-plain b [] e = rw e refl
value_in-plain b (d ∷ rest) e = rw e refl

value_in-doubled : (bs : List ℕ) (d : ℕ) (rest : List ℕ) → (d == 34) ≡ false → value_in (flat_map doubled bs ++ 34 ∷ d ∷ rest) ≡ (bs, d ∷ rest)
value_in-doubled [] d rest e = rw e refl
value_in-doubled (b ∷ bs) d rest e = by (b == 34) refl (value_in-doubled bs d rest e)
  where
    by : (t : Bool) → (b == 34) ≡ t → value_in (flat_map doubled bs ++ 34 ∷ d ∷ rest) ≡ (bs, d ∷ rest) → value_in (flat_map doubled (b ∷ bs) ++ 34 ∷ d ∷ rest) ≡ (b ∷ bs, d ∷ rest)
    by true i next =
        let is : b ≡ 34 = eqb-true b 34 i in
        subst (λ n. value_in (flat_map doubled (n ∷ bs) ++ 34 ∷ d ∷ rest) ≡ (n ∷ bs, d ∷ rest)) (sym is)
        (ap (with_sign 34) next)
    by false i next =
        rw i (value_in-plain b (flat_map doubled bs ++ 34 ∷ d ∷ rest) i ∙ ap (with_sign b) next)

-- ---- a reader finds the values of a row

-- what stands after the first value of a row
abbrev left_after : List (String Global) → List ℕ → List ℕ
left_after others rest = values_of (44 ∷ []) others ++ 13 ∷ 10 ∷ rest

-- a value and what stands after it
value-after : (o : String Global) (os : List (String Global)) (rest : List ℕ) → (value_of (string_bytes o) ++ values_of (44 ∷ []) os) ++ 13 ∷ 10 ∷ rest ≡ 34 ∷ (flat_map doubled (read_value (string_bytes o)) ++ 34 ∷ left_after os rest)
value-after o os rest =
    append_assoc (value_of (string_bytes o)) (values_of (44 ∷ []) os) (13 ∷ 10 ∷ rest)
    ∙ (ap (λ t. t ++ left_after os rest) (value_of-is (string_bytes o))
    ∙ ap (λ t. 34 ∷ t) (append_assoc (flat_map doubled (read_value (string_bytes o))) (34 ∷ []) (left_after os rest)))

read-values : (v : List ℕ) (others : List (String Global)) (rest : List ℕ) → values_in (suc (length others)) (flat_map doubled v ++ 34 ∷ left_after others rest) ≡ Some (v ∷ map (λ cell. read_value (string_bytes cell)) others, rest)
read-values v [] rest =
    ap (λ (f : List ℕ × List ℕ). with_value f.0 (values_after (values_in zero) f.1)) (value_in-doubled v 13 (10 ∷ rest) refl)
read-values v (o ∷ os) rest =
    let tail : List ℕ = 34 ∷ (flat_map doubled (read_value (string_bytes o)) ++ 34 ∷ left_after os rest) in
    ap (λ t. values_in (suc (suc (length os))) (flat_map doubled v ++ 34 ∷ 44 ∷ t)) (value-after o os rest)
    ∙ (ap (λ (f : List ℕ × List ℕ). with_value f.0 (values_after (values_in (suc (length os))) f.1)) (value_in-doubled v 44 tail refl)
    ∙ ap (with_value v) (read-values (read_value (string_bytes o)) os rest))

pub cells-are-read-back : CellsAreReadBack
unfolding row_of
cells-are-read-back =
    record {
      read =
          λ first others rest.
          ap (read_row (length (first ∷ others)))
          (append_assoc (value_of (string_bytes first) ++ values_of (44 ∷ []) others) (13 ∷ 10 ∷ []) rest
          ∙ value-after first others rest)
          ∙ read-values (read_value (string_bytes first)) others rest;
    }
