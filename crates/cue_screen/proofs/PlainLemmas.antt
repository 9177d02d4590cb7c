-- A line as a terminal may get it has no control.
use Rattle.std.proofs.Common.{◌≡◌, ◌∙◌, refl, sym, ap, arith, ℕ, ◌+◌, ◌/◌, ◌%◌, ◌≤◌, Bool, true, false}
use Rattle.std.proofs.Common.{List, [], ◌∷◌, ◌++◌, drop, map, string_bytes}
use Rattle.std.specs.Prelude.{◌||◌, not, String, nat_lt}
use Rattle.std.specs.Char.{encode_utf8}
use Rattle.std.specs.List.{list_any}
use Rattle.std.proofs.lemmas.Bool.{false≢true}
use Rattle.std.specs.Str.{chars, encode_utf8_all}
use Rattle.std.specs.declared.alloc.Global.{Global}
use Rattle.std.proofs.lemmas.Bool.Decides.{nat_tests}
use Rattle.std.proofs.lemmas.Str.{IsUtf8-string_bytes, chars-encodes}
use Rattle.cue_words.specs.Signs.{hidden, is_shown, is_within, shown}
use Rattle.cue_screen.specs.Laws.{DrawnIsPlain, IsPlain}
use Rattle.cue_screen.specs.Terminal.{is_text}

-- ---- a text is what its characters are written as

pub spelled : (s : String Global) (cs : List ℕ) → chars (string_bytes s) ≡ cs → string_bytes s ≡ encode_utf8_all cs
spelled s cs e =
    let u = IsUtf8-string_bytes s in
    sym u.1.1 ∙ ap encode_utf8_all (sym (chars-encodes u.0 u.1.0) ∙ ap chars u.1.1 ∙ e)

-- ---- the bytes of a sign

plain-append : (xs ys : List ℕ) → IsPlain xs → IsPlain ys → IsPlain (xs ++ ys)
plain-append [] ys a b = b
plain-append (x ∷ xs) ys a b = (a.0, plain-append xs ys a.1 b)

-- a byte from 128 on is no control
high : (n x : ℕ) → 128 ≤ n → is_text (n + x) ≡ true
high n x h = grind (arith, nat_tests)

-- a sign of its own is no control
sign : (c : ℕ) → is_shown c ≡ true → is_text c ≡ true
sign c h =
    let clear = neither_of (is_within c (0, 31)) (is_within c (127, 159))
    (list_any (λ range. is_within c range) (drop 2 hidden)) h in
    by clear.0 clear.1
  where
    neither_of : (a b rest : Bool) → not (a || (b || rest)) ≡ true → (a ≡ false) × (b ≡ false)
    neither_of true b rest h = absurd (false≢true h)
    neither_of false true rest h = absurd (false≢true h)
    neither_of false false rest h = (refl, refl)

    by : is_within c (0, 31) ≡ false → is_within c (127, 159) ≡ false → is_text c ≡ true
    by low deleted = grind (arith, nat_tests)

plain-sign : (c : ℕ) → is_shown c ≡ true → IsPlain (encode_utf8 c)
unfolding encode_utf8
plain-sign c h = by (nat_lt c 128) (nat_lt c 2048) (nat_lt c 65536) refl refl refl
  where
    by : (p q r : Bool) → nat_lt c 128 ≡ p → nat_lt c 2048 ≡ q → nat_lt c 65536 ≡ r → IsPlain (encode_utf8 c)
    by true q r ip iq ir = rw ip (sign c h, tt)
    by false true r ip iq ir = rw (ip, iq) (high 192 (c / 64) (omega arith), (high 128 (c % 64) (omega arith), tt))
    by false false true ip iq ir =
        rw (ip, iq, ir) (
          high 224 (c / 4096) (omega arith),
          (high 128 (c / 64 % 64) (omega arith), (high 128 (c % 64) (omega arith), tt)),
        )
    by false false false ip iq ir =
        rw (ip, iq, ir) (
          high 240 (c / 262144) (omega arith),
          (
            high 128 (c / 4096 % 64) (omega arith),
            (high 128 (c / 64 % 64) (omega arith), (high 128 (c % 64) (omega arith), tt)),
          ),
        )

is_shown-shown : (c : ℕ) → is_shown (shown c) ≡ true
is_shown-shown c = by (is_shown c) refl
  where
    by : (b : Bool) → is_shown c ≡ b → is_shown (shown c) ≡ true
    by true e = rw e e
    by false e = rw e refl

plain-signs : (cs : List ℕ) → IsPlain (encode_utf8_all (map shown cs))
plain-signs [] = tt
plain-signs (c ∷ cs) =
    plain-append (encode_utf8 (shown c)) (encode_utf8_all (map shown cs))
    (plain-sign (shown c) (is_shown-shown c)) (plain-signs cs)

pub drawn-is-plain : DrawnIsPlain
drawn-is-plain line = plain-signs (chars line)
