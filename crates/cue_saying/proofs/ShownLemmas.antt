-- A name is written one character after the other.
use Rattle.std.proofs.Common.{◌≡◌, ◌∙◌, ◌<◌, ◌≤◌, ◌+◌, ℕ, List, ◌∷◌, ◌++◌, length, get_or, drop, map}
use Rattle.std.proofs.Common.{encode_utf8, encode_utf8_all, sym, ap, append_assoc, append-nil}
use Rattle.std.proofs.lemmas.List.{at_drop_all, at_drop_more}
use Rattle.cue_words.specs.Signs.{shown}

-- what was written, and what the characters that are left will write, is the whole
abbrev pub IsWay : ℕ → List ℕ → List ℕ → List ℕ → Type 0
IsWay n cs done whole = done ++ encode_utf8_all (map shown (drop n cs)) ≡ whole

pub way-push : (n m c : ℕ) (cs done whole : List ℕ) → (n < length cs) × (c ≡ get_or cs n c) → m ≡ n + 1
    → IsWay n cs done whole → IsWay m cs (done ++ encode_utf8 (shown c)) whole
way-push n m c cs done whole h next way =
    let rest : List ℕ = drop (n + 1) cs in
    let sign : List ℕ = encode_utf8 (shown c) in
    let more = at_drop_more (map shown) cs n c h.0 ∙ ap (λ x. map shown (x ∷ rest)) (sym h.1) in
    ap (λ k. (done ++ sign) ++ encode_utf8_all (map shown (drop k cs))) next
    ∙ (append_assoc done sign (encode_utf8_all (map shown rest))
    ∙ (ap (λ t. done ++ encode_utf8_all t) (sym more) ∙ way))

pub way-end : (n : ℕ) (cs done whole : List ℕ) → length cs ≤ n → IsWay n cs done whole → done ≡ whole
way-end n cs done whole h way =
    sym (append-nil done) ∙ ap (λ l. done ++ encode_utf8_all l) (sym (at_drop_all (map shown) cs n h)) ∙ way
