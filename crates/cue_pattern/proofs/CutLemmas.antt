-- Bytes cut at a separator: the function and what it means.
use Rattle.std.proofs.Common.{◌≡◌, ◌≢◌, ℕ, zero, suc, ◌+◌, ◌-◌, ◌<◌, ◌≤◌, Bool, cond, not, ltb, ◌==◌, take, drop}
use Rattle.std.proofs.Common.{get_or, add-one, position, List, [], ◌∷◌, ◌++◌, length, Option, Some, None, refl, sym, ap}
use Rattle.std.proofs.Common.{subst, ◌∙◌, arith, inl, inr}
use Rattle.std.specs.List.{prefix_len}
use Rattle.std.specs.Option.{option_map}
use Rattle.std.proofs.lemmas.Bool.{cases_eq, cases_Bool, eq-eqb, ne_eqb, eqb-true, eqb-false, not-true, ltb-false}
use Rattle.std.proofs.lemmas.List.Quantifiers.{position-Some}
use Rattle.std.proofs.lemmas.List.Sums.{prefix_len_passes}
use Rattle.std.proofs.lemmas.List.{length-take-le, length-drop}
use Rattle.std.proofs.Math.Seq.{take-length}
use Rattle.cue_pattern.specs.Meaning.{separated_texts, HasNo, IsCut}
use Rattle.cue_pattern.specs.Reading.{with_byte, cut, text_before}
use Rattle.cue_pattern.specs.Steps.{CutsFirst}

-- a separator ends a text
pub cut-here : (c b : ℕ) (bs : List ℕ) → b ≡ c → cut c (b ∷ bs) ≡ [] ∷ cut c bs
cut-here c b bs e = rw (eq-eqb b c e) refl

-- any other byte belongs to the first text
pub cut-other : (c b : ℕ) (bs : List ℕ) → b ≢ c → cut c (b ∷ bs) ≡ with_byte b (cut c bs)
cut-other c b bs ne = rw (ne_eqb b c ne) refl

IsCut-here : (c : ℕ) (bs : List ℕ) (ts : List (List ℕ)) → IsCut c bs ts → IsCut c (c ∷ bs) ([] ∷ ts)
IsCut-here c bs [] h = absurd (h.0 refl)
IsCut-here c bs (t ∷ ts) h = (λ e. cc, ap (λ x. c ∷ x) h.1, (tt, h.2))

separated-byte : (c b : ℕ) (t : List ℕ) (ts : List (List ℕ))
    → separated_texts c ((b ∷ t) ∷ ts) ≡ b ∷ separated_texts c (t ∷ ts)
separated-byte c b t [] = refl
separated-byte c b t (u ∷ ts) = refl

IsCut-other : (c b : ℕ) (bs : List ℕ) (ts : List (List ℕ)) → b ≢ c → IsCut c bs ts → IsCut c (b ∷ bs) (with_byte b ts)
IsCut-other c b bs [] ne h = absurd (h.0 refl)
IsCut-other c b bs (t ∷ ts) ne h = (λ e. cc, ap (λ x. b ∷ x) h.1 ∙ sym (separated-byte c b t ts), ((ne, h.2.0), h.2.1))

-- what is cut is cut
pub cut-is_cut : (c : ℕ) (bs : List ℕ) → IsCut c bs (cut c bs)
cut-is_cut c [] = (λ e. cc, refl, (tt, tt))
cut-is_cut c (b ∷ bs) = elim (cases_eq b c) [
  | inl e ↦ rw (cut-here c b bs e, e) (IsCut-here c bs (cut c bs) (cut-is_cut c bs))
  | inr ne ↦ rw (cut-other c b bs ne) (IsCut-other c b bs (cut c bs) ne (cut-is_cut c bs))
]

-- and there is no other way
pub cut-from : (c : ℕ) (bs : List ℕ) (ts : List (List ℕ)) → IsCut c bs ts → cut c bs ≡ ts
cut-from c bs [] h = absurd (h.0 refl)
cut-from c [] ([] ∷ []) h = refl
cut-from c [] ((x ∷ t) ∷ []) h = let e = h.1 in cc
cut-from c [] ([] ∷ u ∷ us) h = let e = h.1 in cc
cut-from c [] ((x ∷ t) ∷ u ∷ us) h = let e = h.1 in cc
cut-from c (b ∷ bs) ([] ∷ []) h = let e = h.1 in cc
cut-from c (b ∷ bs) ((x ∷ t) ∷ []) h =
    let e = h.1 in
    let same : b ≡ x = cc in
    let rest : bs ≡ t = cc in
    let again = cut-from c bs (t ∷ []) (λ k. cc, rest, (h.2.0.1, tt)) in
    cut-other c b bs (λ k. h.2.0.0 (sym same ∙ k)) ∙ (rw (again, same) refl)
cut-from c (b ∷ bs) ([] ∷ u ∷ us) h =
    let e = h.1 in
    let same : b ≡ c = cc in
    let rest : bs ≡ separated_texts c (u ∷ us) = cc in
    cut-here c b bs same ∙ ap (λ x. [] ∷ x) (cut-from c bs (u ∷ us) (λ k. cc, rest, h.2.1))
cut-from c (b ∷ bs) ((x ∷ t) ∷ u ∷ us) h =
    let e = h.1 in
    let same : b ≡ x = cc in
    let rest : bs ≡ t ++ c ∷ separated_texts c (u ∷ us) = cc in
    let again = cut-from c bs (t ∷ u ∷ us) (λ k. cc, rest, (h.2.0.1, h.2.1)) in
    cut-other c b bs (λ k. h.2.0.0 (sym same ∙ k)) ∙ (rw (again, same) refl)

-- what is enclosed stands before the closing byte, and does not hold it
pub record Encloses (c : ℕ) (bs inside : List ℕ) : Type 0 where
  pub rest : List ℕ
  pub bytes_are : bs ≡ inside ++ c ∷ rest
  pub has_no : HasNo c inside

Encloses-more : (c b : ℕ) (bs inside : List ℕ) (found : Option (List ℕ)) → b ≢ c
    → ((t : List ℕ) → found ≡ Some t → Encloses c bs t) → option_map (λ t. b ∷ t) found ≡ Some inside
    → Encloses c (b ∷ bs) inside
Encloses-more c b bs inside None ne more h = cc
Encloses-more c b bs inside (Some t) ne more h =
    let found = more t refl in
    let front : inside ≡ b ∷ t = cc in
    rw front (record { rest = found.rest; bytes_are = ap (λ x. b ∷ x) found.bytes_are; has_no = (ne, found.has_no) })

pub text_before-is : (c : ℕ) (bs inside : List ℕ) → text_before c bs ≡ Some inside → Encloses c bs inside
text_before-is c [] inside h = cc
text_before-is c (b ∷ bs) inside h = elim (cases_eq b c) [
  | inl e ↦ (let k = rw (eq-eqb b c e) at h in
      let none : inside ≡ [] = cc in
      rw none (record { rest = bs; bytes_are = ap (λ x. x ∷ bs) e; has_no = tt }))
  | inr ne ↦ Encloses-more c b bs inside (text_before c bs) ne (λ t k. text_before-is c bs t k)
      (rw (ne_eqb b c ne) at h)
]

-- and what stands before the first closing byte is enclosed
pub text_before-again : (c : ℕ) (inside rest : List ℕ) → HasNo c inside
    → text_before c (inside ++ c ∷ rest) ≡ Some inside
text_before-again c [] rest h = rw (eq-eqb c c refl) refl
text_before-again c (b ∷ inside) rest h = rw (ne_eqb b c h.0, text_before-again c inside rest h.1) refl

-- ---- by the place of the first separator

cut-at : (c : ℕ) (xs : List ℕ) (i : ℕ) → i < length xs → get_or xs i 0 ≡ c → ((k : ℕ) → k < i → get_or xs k 0 ≢ c)
    → (cut c xs ≡ take i xs ∷ cut c (drop (suc i) xs)) × (text_before c xs ≡ Some (take i xs))
cut-at c [] i l here below = absurd (omega arith)
cut-at c (x ∷ xs) zero l here below = (cut-here c x xs here, rw (eq-eqb x c here) refl)
cut-at c (x ∷ xs) (suc i) l here below =
    let ne : x ≢ c = below 0 (omega arith) in
    let more = cut-at c xs i (omega arith) here (λ k b. below (suc k) (omega arith)) in
    (cut-other c x xs ne ∙ ap (with_byte x) more.0, rw (ne_eqb x c ne, more.1) refl)

cut-nowhere : (c : ℕ) (xs : List ℕ) → ((k : ℕ) → k < length xs → get_or xs k 0 ≢ c)
    → (cut c xs ≡ xs ∷ []) × (text_before c xs ≡ None)
cut-nowhere c [] none = (refl, refl)
cut-nowhere c (x ∷ xs) none =
    let ne : x ≢ c = none 0 (omega arith) in
    let more = cut-nowhere c xs (λ k b. none (suc k) (omega arith)) in
    (cut-other c x xs ne ∙ ap (with_byte x) more.0, rw (ne_eqb x c ne, more.1) refl)

abbrev is : ℕ → ℕ → Bool
is c b = b == c

CutsFirst-found : (c : ℕ) (xs : List ℕ) (i : ℕ) → position (is c) xs ≡ Some i
    → CutsFirst c xs (take i xs) (Some (drop (i + 1) xs))
CutsFirst-found c xs i h =
    let p = position-Some (is c) xs i 0 h in
    let both = cut-at c xs i p.0 (eqb-true _ c p.1) (λ k l. eqb-false _ c (p.2 k l)) in
    record {
      parts = rw add-one both.0;
      inside = both.1;
      rest = (
        ap (λ n. drop (n + 1) xs) (sym (length-take-le i xs (omega (arith, p.0)))),
        omega
            (arith, length-take-le i xs (omega (arith, p.0)), length-drop (i + 1) xs, p.0),
      );
    }

-- the rest of a slice from n on, as a range gives it
pub CutsFirst-range : (c : ℕ) (xs : List ℕ) (i : ℕ) → position (is c) xs ≡ Some i
    → CutsFirst c xs (take i xs) (Some (take (length xs - (i + 1)) (drop (i + 1) xs)))
CutsFirst-range c xs i h =
    subst (λ (r : List ℕ). CutsFirst c xs (take i xs) (Some r))
    (sym (take-length (drop (i + 1) xs)) ∙ ap (λ n. take n (drop (i + 1) xs)) (length-drop (i + 1) xs))
    (CutsFirst-found c xs i h)

pub CutsFirst-none : (c : ℕ) (xs : List ℕ) → position (is c) xs ≡ None → CutsFirst c xs xs None
CutsFirst-none c xs h =
    let past : length xs ≤ prefix_len (λ b. not (is c b)) xs = past_end _ _ h in
    let both = cut-nowhere c xs
    (λ k l. eqb-false _ c (not-true _ (prefix_len_passes (λ b. not (is c b)) xs k 0 (omega arith)))) in
    record { parts = both.0; inside = both.1; rest = tt }
  where
    past_end : (n m : ℕ) → cond (ltb n m) (Some n) None ≡ None → m ≤ n
    past_end n m h = elim (cases_Bool (ltb n m)) [
      | inl less ↦ (let k = rw less at h in cc)
      | inr not_less ↦ ltb-false n m not_less
    ]
