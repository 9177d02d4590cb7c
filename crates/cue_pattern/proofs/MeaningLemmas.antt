-- Matching: the test and the meaning.
use Rattle.std.proofs.Common.{◌≡◌, ℕ, Bool, true, List, [], ◌∷◌, ◌++◌, refl, sym, ap, ◌∙◌, inl, inr}
use Rattle.std.proofs.lemmas.Bool.{cases_eq, eq-eqb, ne_eqb, eqb-true, and_parts, and_from, or_cases, or_left, or_right}
use Rattle.std.proofs.lemmas.Bool.{leb-true, le-leb, not-true, not_from_false, false_from_ne_true, false≢true}
use Rattle.cue_pattern.specs.declared.ranges.Range.{Range}
use Rattle.cue_pattern.specs.declared.piece.Piece.{Piece}
use Rattle.cue_pattern.specs.declared.piece.Piece.TheVariants.{One, Many, Listed, Unlisted, Among, Plain}
use Rattle.cue_pattern.specs.Meaning.{IsIn, IsAmong, InPiece, InPart, InParts, Denotes}
use Rattle.cue_pattern.specs.Reading.{cut}
use Rattle.cue_pattern.specs.Matching.{is_in, takes, after_byte, after_any, after_text, after_texts, after_piece}
use Rattle.cue_pattern.specs.Matching.{part_matches, parts_match, matches}
use Rattle.cue_pattern.proofs.CutLemmas.{cut-is_cut, cut-from}

-- ---- one byte

is_in-is : (rs : List Range) (b : ℕ) → is_in rs b ≡ true → IsIn rs b
is_in-is [] b h = cc
is_in-is (r ∷ rs) b h = elim (or_cases _ _ h) [
  | inl here ↦ (let both = and_parts _ _ here in inl (leb-true r.low b both.0, leb-true b r.high both.1))
  | inr later ↦ inr (is_in-is rs b later)
]

is_in-again : (rs : List Range) (b : ℕ) → IsIn rs b → is_in rs b ≡ true
is_in-again [] b h = absurd h
is_in-again (r ∷ rs) b (inl h) = or_left _ _ (and_from _ _ (le-leb r.low b h.0) (le-leb b r.high h.1))
is_in-again (r ∷ rs) b (inr h) = or_right _ _ (is_in-again rs b h)

takes-is : (p : Piece) (b : ℕ) → takes p b ≡ true → InPiece p (b ∷ [])
takes-is One b h = (b, refl)
takes-is Many b h = cc
takes-is (Listed rs) b h = (b, refl, is_in-is rs b h)
takes-is (Unlisted rs) b h = (b, refl, λ k. false≢true (sym (not-true _ h) ∙ is_in-again rs b k))
takes-is (Among ts) b h = cc
takes-is (Plain c) b h = ap (λ x. x ∷ []) (eqb-true b c h)

-- ---- one piece, and then a text that passes

-- the text splits into one of the piece's set and one that passes
record Splits (p : Piece) (rest : List ℕ → Bool) (t : List ℕ) : Type 0 where
  pub front : List ℕ
  pub tail : List ℕ
  pub text_is : t ≡ front ++ tail
  pub in_piece : InPiece p front
  pub passes : rest tail ≡ true

after_byte-is : (p : Piece) (rest : List ℕ → Bool) (t : List ℕ) → after_byte (takes p) rest t ≡ true → Splits p rest t
after_byte-is p rest [] h = cc
after_byte-is p rest (b ∷ t) h =
    let both = and_parts _ _ h in
    record { front = b ∷ []; tail = t; text_is = refl; in_piece = takes-is p b both.0; passes = both.1 }

after_any-is : (rest : List ℕ → Bool) (t : List ℕ) → after_any rest t ≡ true → Splits Many rest t
after_any-is rest [] h = record { front = []; tail = []; text_is = refl; in_piece = tt; passes = h }
after_any-is rest (b ∷ t) h = elim (or_cases _ _ h) [
  | inl here ↦ record { front = []; tail = b ∷ t; text_is = refl; in_piece = tt; passes = here }
  | inr later ↦ (let s = after_any-is rest t later in
      record {
        front = b ∷ s.front;
        tail = s.tail;
        text_is = ap (λ x. b ∷ x) s.text_is;
        in_piece = tt;
        passes =
            s.passes;
      })
]

after_any-again : (rest : List ℕ → Bool) (front tail : List ℕ) → rest tail ≡ true
    → after_any rest (front ++ tail) ≡ true
after_any-again rest [] [] h = h
after_any-again rest [] (b ∷ t) h = or_left _ _ h
after_any-again rest (b ∷ front) tail h = or_right _ _ (after_any-again rest front tail h)

after_text-is : (u : List ℕ) (rest : List ℕ → Bool) (t : List ℕ) → after_text u rest t ≡ true
    → (tail : List ℕ) × (t ≡ u ++ tail) × (rest tail ≡ true)
after_text-is [] rest t h = (t, refl, h)
after_text-is (c ∷ u) rest [] h = cc
after_text-is (c ∷ u) rest (b ∷ t) h =
    let both = and_parts _ _ h in
    let (tail, is, passes) = after_text-is u rest t both.1 in
    let same : c ≡ b = eqb-true c b both.0 in
    (tail, (let e : b ∷ t ≡ c ∷ (u ++ tail) = cc in e), passes)

after_text-again : (u : List ℕ) (rest : List ℕ → Bool) (tail : List ℕ) → rest tail ≡ true
    → after_text u rest (u ++ tail) ≡ true
after_text-again [] rest tail h = h
after_text-again (c ∷ u) rest tail h = and_from _ _ (eq-eqb c c refl) (after_text-again u rest tail h)

after_texts-is : (ts : List (List ℕ)) (rest : List ℕ → Bool) (t : List ℕ) → after_texts ts rest t ≡ true
    → Splits (Among ts) rest t
after_texts-is [] rest t h = cc
after_texts-is (u ∷ us) rest t h = elim (or_cases _ _ h) [
  | inl here ↦ (let (tail, is, passes) = after_text-is u rest t here in
      record { front = u; tail = tail; text_is = is; in_piece = inl refl; passes = passes })
  | inr later ↦ (let s = after_texts-is us rest t later in
      record { front = s.front; tail = s.tail; text_is = s.text_is; in_piece = inr s.in_piece; passes = s.passes })
]

after_texts-again : (ts : List (List ℕ)) (rest : List ℕ → Bool) (front tail : List ℕ) → IsAmong ts front
    → rest tail ≡ true → after_texts ts rest (front ++ tail) ≡ true
after_texts-again [] rest front tail h passes = absurd h
after_texts-again (u ∷ us) rest front tail (inl is) passes = rw is (or_left _ _ (after_text-again u rest tail passes))
after_texts-again (u ∷ us) rest front tail (inr h) passes = or_right _ _ (after_texts-again us rest front tail h passes)

after_piece-is : (p : Piece) (rest : List ℕ → Bool) (t : List ℕ) → after_piece p rest t ≡ true → Splits p rest t
after_piece-is One rest t h = after_byte-is One rest t h
after_piece-is Many rest t h = after_any-is rest t h
after_piece-is (Listed rs) rest t h = after_byte-is (Listed rs) rest t h
after_piece-is (Unlisted rs) rest t h = after_byte-is (Unlisted rs) rest t h
after_piece-is (Among ts) rest t h = after_texts-is ts rest t h
after_piece-is (Plain c) rest t h = after_byte-is (Plain c) rest t h

after_piece-again : (p : Piece) (rest : List ℕ → Bool) (front tail : List ℕ) → InPiece p front → rest tail ≡ true
    → after_piece p rest (front ++ tail) ≡ true
after_piece-again One rest front tail (b, is) passes = rw is passes
after_piece-again Many rest front tail h passes = after_any-again rest front tail passes
after_piece-again (Listed rs) rest front tail (b, is, inside) passes =
    rw is (and_from _ _ (is_in-again rs b inside) passes)
after_piece-again (Unlisted rs) rest front tail (b, is, outside) passes =
    rw is (and_from _ _ (not_from_false _ (false_from_ne_true _ (λ k. outside (is_in-is rs b k)))) passes)
after_piece-again (Among ts) rest front tail h passes = after_texts-again ts rest front tail h passes
after_piece-again (Plain c) rest front tail is passes = rw is (and_from _ _ (eq-eqb c c refl) passes)

-- ---- parts, and whole patterns

part_matches-is : (ps : List Piece) (t : List ℕ) → part_matches ps t ≡ true → InPart ps t
unfolding part_matches
part_matches-is [] [] h = refl
part_matches-is [] (b ∷ t) h = cc
part_matches-is (p ∷ ps) t h =
    let s = after_piece-is p (part_matches ps) t h in
    (s.front, s.tail, s.text_is, s.in_piece, part_matches-is ps s.tail s.passes)

part_matches-again : (ps : List Piece) (t : List ℕ) → InPart ps t → part_matches ps t ≡ true
unfolding part_matches
part_matches-again [] t h = rw h refl
part_matches-again (p ∷ ps) t (front, rest, is, inside, more) =
    rw is (after_piece-again p (part_matches ps) front rest inside (part_matches-again ps rest more))

parts_match-is : (ps : List (List Piece)) (ts : List (List ℕ)) → parts_match ps ts ≡ true → InParts ps ts
unfolding parts_match
parts_match-is [] [] h = tt
parts_match-is [] (t ∷ ts) h = cc
parts_match-is (p ∷ ps) [] h = cc
parts_match-is (p ∷ ps) (t ∷ ts) h = let both = and_parts _ _ h in
    (part_matches-is p t both.0, parts_match-is ps ts both.1)

parts_match-again : (ps : List (List Piece)) (ts : List (List ℕ)) → InParts ps ts → parts_match ps ts ≡ true
unfolding parts_match
parts_match-again [] [] h = refl
parts_match-again [] (t ∷ ts) h = absurd h
parts_match-again (p ∷ ps) [] h = absurd h
parts_match-again (p ∷ ps) (t ∷ ts) h = and_from _ _ (part_matches-again p t h.0) (parts_match-again ps ts h.1)

-- what the test accepts is denoted
pub matches-is : (pattern : List (List Piece)) (address : List ℕ) → matches pattern address ≡ true
    → Denotes pattern address
unfolding matches
matches-is pattern [] h = cc
matches-is pattern (b ∷ bs) h = elim (cases_eq b 47) [
  | inl same ↦ (
    cut 47 bs,
    (bs, ap (λ x. x ∷ bs) same, cut-is_cut 47 bs),
    parts_match-is pattern (cut 47 bs)
        (rw (eq-eqb b 47 same) at h),
  )
  | inr ne ↦ (let k = rw (ne_eqb b 47 ne) at h in cc)
]

-- what is denoted is accepted
pub matches-again : (pattern : List (List Piece)) (address : List ℕ) → Denotes pattern address
    → matches pattern address ≡ true
unfolding matches
matches-again pattern address h =
    let (rest, is, cuts) = h.1 in
    rw (is, cut-from 47 rest h.0 cuts) (parts_match-again pattern h.0 h.2)
