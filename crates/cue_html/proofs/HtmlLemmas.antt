-- A text is put into HTML one character after the other.
use Rattle.std.proofs.Common.{◌≡◌, ◌∙◌, ◌<◌, ◌≤◌, ◌+◌, ℕ, List, [], ◌∷◌, ◌++◌, length, get_or, drop, codes}
use Rattle.std.proofs.Common.{Bool, true, false, ◌==◌, if◌then◌else◌, encode_utf8, encode_utf8_all}
use Rattle.std.proofs.Common.{refl, sym, ap, append_assoc, append-nil}
use Rattle.std.specs.List.{flat_map, list_all}
use Rattle.std.specs.Str.{chars}
use Rattle.std.proofs.lemmas.List.{at_drop_all, at_drop_more}
use Rattle.std.proofs.lemmas.List.Folds.{list_all-append}
use Rattle.cue_words.specs.Signs.{is_shown, shown}
use Rattle.cue_html.specs.Html.{NoTextIsMarkup, is_plain_html, sign_of}

-- ---- what HTML has of a text neither begins nor ends a tag or a value

plain-by : (a b d e f : Bool) (s : ℕ) → (s == 60) ≡ a → (s == 62) ≡ b → (s == 38) ≡ d → (s == 34) ≡ e → (s == 39) ≡ f
    → is_shown s ≡ true
    → list_all is_plain_html
    (if a then codes "&lt;" else if b then codes "&gt;" else if d then codes "&amp;"
    else if e then codes "&quot;" else if f then codes "&#39;" else s ∷ []) ≡ true
plain-by true b d e f s ia ib id ie ig h = refl
plain-by false true d e f s ia ib id ie ig h = refl
plain-by false false true e f s ia ib id ie ig h = refl
plain-by false false false true f s ia ib id ie ig h = refl
plain-by false false false false true s ia ib id ie ig h = refl
plain-by false false false false false s ia ib id ie ig h = rw (ia, ib, ie, ig, h) refl

is_shown-shown : (c : ℕ) → is_shown (shown c) ≡ true
is_shown-shown c = by (is_shown c) refl
  where
    by : (b : Bool) → is_shown c ≡ b → is_shown (shown c) ≡ true
    by true e = rw e e
    by false e = rw e refl

plain-sign : (c : ℕ) → list_all is_plain_html (sign_of c) ≡ true
plain-sign c =
    let s : ℕ = shown c in
    plain-by (s == 60) (s == 62) (s == 38) (s == 34) (s == 39) s refl refl refl refl refl (is_shown-shown c)

plain-signs : (cs : List ℕ) → list_all is_plain_html (flat_map sign_of cs) ≡ true
plain-signs [] = refl
plain-signs (c ∷ cs) =
    list_all-append is_plain_html (sign_of c) (flat_map sign_of cs) ∙ rw (plain-sign c, plain-signs cs) refl

pub no-text-is-markup : NoTextIsMarkup
no-text-is-markup =
    record {
      plain = λ text. record { signs = flat_map sign_of (chars text); spelled = refl; plain = plain-signs (chars text) };
    }

-- ---- one character after the other

encode-append : (xs ys : List ℕ) → encode_utf8_all (xs ++ ys) ≡ encode_utf8_all xs ++ encode_utf8_all ys
encode-append [] ys = refl
encode-append (x ∷ xs) ys =
    ap (λ t. encode_utf8 x ++ t) (encode-append xs ys)
    ∙ sym (append_assoc (encode_utf8 x) (encode_utf8_all xs) (encode_utf8_all ys))

-- what a loop over the characters has put there, and what it will put there of the others, is the whole
abbrev pub IsWay : ℕ → List ℕ → List ℕ → List ℕ → Type 0
IsWay n cs html whole = html ++ encode_utf8_all (flat_map sign_of (drop n cs)) ≡ whole

pub way-push : (n m c : ℕ) (cs html new whole : List ℕ) → (n < length cs) × (c ≡ get_or cs n c) → m ≡ n + 1
    → new ≡ html ++ encode_utf8_all (sign_of c) → IsWay n cs html whole → IsWay m cs new whole
way-push n m c cs html new whole h next grown way =
    let rest : List ℕ = drop (n + 1) cs in
    let more = at_drop_more (flat_map sign_of) cs n c h.0 ∙ ap (λ x. flat_map sign_of (x ∷ rest)) (sym h.1) in
    ap (λ k. new ++ encode_utf8_all (flat_map sign_of (drop k cs))) next
    ∙ (ap (λ t. t ++ encode_utf8_all (flat_map sign_of rest)) grown
    ∙ (append_assoc html (encode_utf8_all (sign_of c)) (encode_utf8_all (flat_map sign_of rest))
    ∙ (ap (λ t. html ++ t) (sym (encode-append (sign_of c) (flat_map sign_of rest)))
    ∙ (ap (λ t. html ++ encode_utf8_all t) (sym more) ∙ way))))

pub way-end : (n : ℕ) (cs html whole : List ℕ) → length cs ≤ n → IsWay n cs html whole → html ≡ whole
way-end n cs html whole h way =
    sym (append-nil html) ∙ ap (λ l. html ++ encode_utf8_all l) (sym (at_drop_all (flat_map sign_of) cs n h)) ∙ way
