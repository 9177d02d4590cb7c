-- Reading whole parts and patterns, and how they are written: the function and the grammar.
use Rattle.std.proofs.Common.{◌≡◌, ℕ, List, [], ◌∷◌, drop, Option, Some, None, refl, sym, ap, subst, ◌∙◌, inl, inr}
use Rattle.std.specs.Option.{option_map}
use Rattle.std.specs.Prelude.{option_and_then}
use Rattle.std.proofs.lemmas.Bool.{cases_eq, eq-eqb, ne_eqb}
use Rattle.cue_pattern.specs.declared.piece.Piece.{Piece}
use Rattle.cue_pattern.specs.Grammar.{IsPart, ArePartsSpelled, IsPattern}
use Rattle.cue_pattern.specs.Reading.{cut, piece_at, pieces_after, pieces_of, pattern_at}
use Rattle.cue_pattern.proofs.CutLemmas.{cut-is_cut, cut-from}
use Rattle.cue_pattern.proofs.SpellingLemmas.{piece_at-fronts, piece_at-again, pieces_after-cons, pieces_after-none}
use Rattle.cue_pattern.proofs.SpellingLemmas.{pieces_after-end}

-- what was mapped, where something was
record Mapped {A B : Type 0} (f : A → B) (o : Option A) (y : B) : Type 0 where
  pub value : A
  pub was : o ≡ Some value
  pub gives : f value ≡ y

mapped : {A B : Type 0} (f : A → B) (o : Option A) (y : B) → option_map f o ≡ Some y → Mapped f o y
mapped f None y h = cc
mapped f (Some x) y h = record { value = x; was = refl; gives = (let e : f x ≡ y = cc in e) }

-- the pieces of a text that is not empty: one at its front, and the rest
record Begins (b : ℕ) (bs : List ℕ) (ps : List Piece) : Type 0 where
  pub piece : Piece
  pub own : ℕ
  pub more : List Piece
  pub piece_is : piece_at b bs ≡ Some (piece, own)
  pub rest_is : pieces_after 0 (drop own bs) ≡ Some more
  pub pieces_are : piece ∷ more ≡ ps

begins : (b : ℕ) (bs : List ℕ) (ps : List Piece) (found : Option (Piece × ℕ)) → piece_at b bs ≡ found
    → pieces_after 0 (b ∷ bs) ≡ Some ps → Begins b bs ps
begins b bs ps None is h = let none = pieces_after-none b bs is in cc
begins b bs ps (Some (p, n)) is h =
    let m = mapped (λ qs. p ∷ qs) (pieces_after 0 (drop n bs)) ps (sym (pieces_after-cons b bs p n is) ∙ h) in
    record { piece = p; own = n; more = m.value; piece_is = is; rest_is = m.was; pieces_are = m.gives }

piece-same : (found : Option (Piece × ℕ)) (p q : Piece) (n : ℕ) → found ≡ Some (q, n) → q ≡ p → found ≡ Some (p, n)
piece-same found p q n h e = rw (← e) h

part-is : (ps : List Piece) (t : List ℕ) → pieces_after 0 t ≡ Some ps → IsPart t ps
part-is [] [] h = refl
part-is [] (b ∷ bs) h = let a = (begins b bs [] (piece_at b bs) refl h).pieces_are in cc
part-is (p ∷ ps) [] h = let e = pieces_after-end in cc
part-is (p ∷ ps) (b ∷ bs) h =
    let a = begins b bs (p ∷ ps) (piece_at b bs) refl h in
    let same : a.piece ≡ p = (let e = a.pieces_are in cc) in
    let rest : a.more ≡ ps = (let e = a.pieces_are in cc) in
    let front : piece_at b bs ≡ Some (p, a.own) = piece-same _ p a.piece a.own a.piece_is same in
    let f = piece_at-fronts b bs p a.own front in
    let more : pieces_after 0 f.rest ≡ Some ps = ap (pieces_after 0) (sym f.rest_is)
    ∙ (a.rest_is ∙ ap (λ (x : List Piece). Some x) rest) in
    (b ∷ f.front, f.rest, ap (λ x. b ∷ x) f.bytes_are, f.spells, part-is ps f.rest more)

part-again : (ps : List Piece) (t : List ℕ) → IsPart t ps → pieces_after 0 t ≡ Some ps
part-again [] t h = ap (pieces_after 0) h ∙ pieces_after-end
part-again (p ∷ ps) t h =
    let r = piece_at-again h.0 h.1 p h.3 in
    ap (pieces_after 0) (h.2 ∙ r.text_is) ∙ pieces_after-cons r.first r.more p r.own r.piece_is
    ∙ ap (λ (x : List ℕ). option_map (λ qs. p ∷ qs) (pieces_after 0 x)) r.rest_is
    ∙ ap (option_map (λ qs. p ∷ qs)) (part-again ps h.1 h.4)

pieces_of-part : (t : List ℕ) (ts : List (List ℕ)) (found : Option (List Piece)) (pattern : List (List Piece))
    → pieces_after 0 t ≡ found → ((qs : List (List Piece)) → pieces_of ts ≡ Some qs → ArePartsSpelled ts qs)
    → option_and_then (λ p. option_map (λ ps. p ∷ ps) (pieces_of ts)) found ≡ Some pattern
    → ArePartsSpelled (t ∷ ts) pattern
pieces_of-part t ts None pattern is more h = cc
pieces_of-part t ts (Some p) pattern is more h =
    let m = mapped (λ ps. p ∷ ps) (pieces_of ts) pattern h in
    subst (ArePartsSpelled (t ∷ ts)) m.gives (part-is p t is, more m.value m.was)

pieces_of-is : (ts : List (List ℕ)) (pattern : List (List Piece)) → pieces_of ts ≡ Some pattern
    → ArePartsSpelled ts pattern
unfolding pieces_of
pieces_of-is [] [] h = tt
pieces_of-is [] (p ∷ ps) h = cc
pieces_of-is (t ∷ ts) pattern h = pieces_of-part t ts (pieces_after 0 t) pattern refl (λ qs k. pieces_of-is ts qs k) h

pieces_of-again : (ts : List (List ℕ)) (pattern : List (List Piece)) → ArePartsSpelled ts pattern
    → pieces_of ts ≡ Some pattern
unfolding pieces_of
pieces_of-again [] [] h = refl
pieces_of-again [] (p ∷ ps) h = absurd h
pieces_of-again (t ∷ ts) [] h = absurd h
pieces_of-again (t ∷ ts) (p ∷ ps) h = rw (part-again p t h.0, pieces_of-again ts ps h.1) refl

-- what is read is what the bytes spell
pub pattern_at-is : (bytes : List ℕ) (pattern : List (List Piece)) → pattern_at bytes ≡ Some pattern
    → IsPattern bytes pattern
unfolding pattern_at
pattern_at-is [] pattern h = cc
pattern_at-is (b ∷ bs) pattern h = elim (cases_eq b 47) [
  | inl same ↦ (
    cut 47 bs,
    (bs, ap (λ x. x ∷ bs) same, cut-is_cut 47 bs),
    pieces_of-is (cut 47 bs) pattern
        (rw (eq-eqb b 47 same) at h),
  )
  | inr ne ↦ (let k = rw (ne_eqb b 47 ne) at h in cc)
]

-- what the bytes spell is read
pub pattern_at-again : (bytes : List ℕ) (pattern : List (List Piece)) → IsPattern bytes pattern
    → pattern_at bytes ≡ Some pattern
unfolding pattern_at
pattern_at-again bytes pattern h =
    let (rest, is, cuts) = h.1 in
    rw (is, cut-from 47 rest h.0 cuts) (pieces_of-again h.0 pattern h.2)
