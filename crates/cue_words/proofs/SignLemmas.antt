-- The characters of a text of which each is shown as it may be.
use Rattle.std.proofs.Common.{◌≡◌, ◌∙◌, ℕ, Bool, true, false, List, [], ◌∷◌, map, refl, sym, ap, Result, Ok, Err, IfOk, IsTrue, String, string_bytes}
use Rattle.std.specs.List.{list_all}
use Rattle.std.specs.Str.{chars}
use Rattle.std.proofs.Math.Utf8.{encodes}
use Rattle.std.proofs.lemmas.Str.{chars_from_encodes, IsUtf8-string_bytes}
use Rattle.cue_words.specs.Signs.{is_shown, shown}

pub is_shown-shown : (c : ℕ) → is_shown (shown c) ≡ true
is_shown-shown c = by (is_shown c) refl
  where
    by : (b : Bool) → is_shown c ≡ b → is_shown (shown c) ≡ true
    by true e = rw e e
    by false e = rw e refl

pub all-shown : (cs : List ℕ) → list_all is_shown (map shown cs) ≡ true
all-shown [] = refl
all-shown (c ∷ cs) = rw (is_shown-shown c) (all-shown cs)

pub signs-of : {Z E : Type 0} (r : Result (String Z) E) (cs : List ℕ) → IfOk r (λ w. string_bytes w ≡ encodes cs)
    → IfOk r (λ t. chars (string_bytes t) ≡ cs)
signs-of (Ok w) cs e = sym (chars_from_encodes cs (string_bytes w) (IsUtf8-string_bytes w) (sym e))
signs-of (Err x) cs e = e

pub safe-of : {Z E : Type 0} (r : Result (String Z) E) (cs : List ℕ)
    → IfOk r (λ t. chars (string_bytes t) ≡ map shown cs) → IfOk r (λ t. IsTrue (list_all is_shown (chars (string_bytes t))))
safe-of (Ok w) cs e = ap (λ (ds : List ℕ). list_all is_shown ds) e ∙ all-shown cs
safe-of (Err x) cs e = e
