-- Reading pieces and how they are written: the function and the grammar.
use Rattle.std.proofs.Common.{◌≡◌, ◌≢◌, ℕ, zero, suc, ◌+◌, ◌-◌, ◌<◌, ◌≤◌, get_or, true, List, [], ◌∷◌, ◌++◌, length}
use Rattle.std.proofs.Common.{take, drop, Option, Some, None, refl, sym, ap, subst, ◌∙◌, arith, inl, inr, append_assoc}
use Rattle.std.proofs.Common.{append-nil}
use Rattle.std.specs.List.{AllByRecursion, list_all}
use Rattle.std.specs.Option.{option_map}
use Rattle.std.proofs.lemmas.List.{length-drop}
use Rattle.std.proofs.Math.Seq.{drop-append_seam, take-length}
use Rattle.std.proofs.lemmas.Option.{some_pair_parts}
use Rattle.std.proofs.lemmas.Bool.{cases_eq, cases_Bool, eq-eqb, ne_eqb, eqb-false, not-true, and_parts, and_from}
use Rattle.cue_pattern.specs.declared.ranges.Range.{Range}
use Rattle.cue_pattern.specs.declared.piece.Piece.{Piece}
use Rattle.cue_pattern.specs.declared.piece.Piece.TheVariants.{One, Many, Listed, Unlisted, Among, Plain}
use Rattle.cue_pattern.specs.Meaning.{HasNo, IsCut}
use Rattle.cue_pattern.specs.Grammar.{ranges, IsPlain, IsBraced, IsPiece}
use Rattle.cue_pattern.specs.Reading.{cut, text_before, negated_piece, bracketed_piece, is_braced, braced_piece}
use Rattle.cue_pattern.specs.Reading.{piece_between, piece_at, pieces_after}
use Rattle.cue_pattern.specs.Steps.{Reads}
use Rattle.cue_pattern.proofs.FrontLemmas.{with_front, front-more}
use Rattle.cue_pattern.proofs.CutLemmas.{cut-is_cut, cut-from, Encloses, text_before-is, text_before-again}

-- ---- one piece

-- a piece that begins with b, and whose further bytes stand at the front of bs
pub record Fronts (b : ℕ) (bs : List ℕ) (p : Piece) (n : ℕ) : Type 0 where
  pub front : List ℕ
  pub rest : List ℕ
  pub bytes_are : bs ≡ front ++ rest
  pub spells : IsPiece (b ∷ front) p
  pub rest_is : drop n bs ≡ rest

IsBraced-is : (b : ℕ) → is_braced b ≡ true → IsBraced b
IsBraced-is b h =
    let one = and_parts _ _ h in
    let two = and_parts _ _ one.1 in
    let three = and_parts _ _ two.1 in
    let four = and_parts _ _ three.1 in
    let five = and_parts _ _ four.1 in (
      eqb-false b 91 (not-true _ one.0),
      eqb-false b 93 (not-true _ two.0),
      eqb-false b 123 (not-true _ three.0),
      eqb-false b 125 (not-true _ four.0),
      eqb-false b 42 (not-true _ five.0),
      eqb-false b 63 (not-true _ five.1),
    )

IsBraced-again : (b : ℕ) → IsBraced b → is_braced b ≡ true
IsBraced-again b h = simp (
  ne_eqb b 91 h.0,
  ne_eqb b 93 h.1,
  ne_eqb b 123 h.2,
  ne_eqb b 125 h.3,
  ne_eqb b 42 h.4,
  ne_eqb
      b 63 h.5,
)

all_braced-is : (bs : List ℕ) → list_all is_braced bs ≡ true → AllByRecursion IsBraced bs
all_braced-is [] h = tt
all_braced-is (b ∷ bs) h = let both = and_parts _ _ h in (IsBraced-is b both.0, all_braced-is bs both.1)

all_braced-again : (bs : List ℕ) → AllByRecursion IsBraced bs → list_all is_braced bs ≡ true
all_braced-again [] h = refl
all_braced-again (b ∷ bs) h = and_from _ _ (IsBraced-again b h.0) (all_braced-again bs h.1)

length-closed : (inside : List ℕ) (c : ℕ) → length (inside ++ c ∷ []) ≡ length inside + 1
length-closed [] c = refl
length-closed (b ∷ inside) c = omega (arith, length-closed inside c)

drop-closed : (inside rest : List ℕ) (c : ℕ) → drop (length inside + 1) (inside ++ c ∷ rest) ≡ rest
drop-closed inside rest c =
    let regrouped : inside ++ c ∷ rest ≡ (inside ++ c ∷ []) ++ rest = sym (append_assoc inside (c ∷ []) rest) in
    rw (regrouped, ← length-closed inside c) (drop-append_seam (inside ++ c ∷ []) rest)

-- what stands enclosed at the front, as the front of a piece
text_before-fronts : (b c : ℕ) (bs inside : List ℕ) (p : Piece) → Encloses c bs inside
    → IsPiece (b ∷ (inside ++ c ∷ [])) p → Fronts b bs p (length inside + 1)
text_before-fronts b c bs inside p h spells = record {
  front = inside ++ c ∷ [];
  rest = h.rest;
  bytes_are = h.bytes_are ∙ sym (append_assoc inside (c ∷ []) h.rest);
  spells = spells;
  rest_is = rw h.bytes_are (drop-closed inside h.rest c);
}

bracket-fronts : (bs inside : List ℕ) (p : Piece) → Encloses 93 bs inside → bracketed_piece inside ≡ Some p
    → Fronts 91 bs p (length inside + 1)
bracket-fronts bs [] p h e = cc
bracket-fronts bs (b ∷ inside) p h e = elim (cases_eq b 33) [
  | inl same ↦ text_before-fronts 91 93 bs (b ∷ inside) p h
      (negated_piece-spells b inside p same h.has_no (rw (eq-eqb b 33 same) at e))
  | inr ne ↦ text_before-fronts 91 93 bs (b ∷ inside) p h (
      let k = rw (ne_eqb b 33 ne) at e in
      let same : p ≡ Listed (ranges (b ∷ inside)) = cc in
      rw same (b, inside, refl, ne, h.has_no, refl))
]
  where
    negated_piece-spells : (b : ℕ) (inside : List ℕ) (p : Piece) → b ≡ 33 → HasNo 93 (b ∷ inside)
        → negated_piece inside ≡ Some p → IsPiece (91 ∷ (b ∷ inside ++ 93 ∷ [])) p
    negated_piece-spells b [] p same has_no e = cc
    negated_piece-spells b (first ∷ more) p same has_no e =
        let is : p ≡ Unlisted (ranges (first ∷ more)) = cc in
        rw (is, same) (first, more, refl, has_no.1, refl)

brace-fronts : (bs inside : List ℕ) (p : Piece) → Encloses 125 bs inside → braced_piece inside ≡ Some p
    → Fronts 123 bs p (length inside + 1)
brace-fronts bs inside p h e = elim (cases_Bool (list_all is_braced inside)) [
  | inl all ↦ text_before-fronts 123 125 bs inside p h (
      let k = rw all at e in
      let same : p ≡ Among (cut 44 inside) = cc in
      rw same (inside, refl, all_braced-is inside all, cut-is_cut 44 inside))
  | inr some ↦ (let k = rw some at e in cc)
]

piece_between-fronts : (b c : ℕ) (bs : List ℕ) (p : Piece) (n : ℕ) (piece : List ℕ → Option Piece)
    (found : Option (List ℕ)) → text_before c bs ≡ found
    → ((inside : List ℕ) (q : Piece) → Encloses c bs inside → piece inside ≡ Some q → Fronts b bs q (length inside + 1))
    → piece_between piece found ≡ Some (p, n) → Fronts b bs p n
piece_between-fronts b c bs p n piece None is fronts e = cc
piece_between-fronts b c bs p n piece (Some inside) is fronts e = with_piece (piece inside) refl e
  where
    with_piece : (made : Option Piece) → piece inside ≡ made
        → option_map {U = Piece × ℕ} (λ q. (q, length inside + 1)) made ≡ Some (p, n) → Fronts b bs p n
    with_piece None made e = cc
    with_piece (Some q) made e =
        let parts = some_pair_parts _ _ _ _ e in
        rw (← parts.0, ← parts.1) (fronts inside q (text_before-is c bs inside is) made)

-- what is read at the front is written there
pub piece_at-fronts : (b : ℕ) (bs : List ℕ) (p : Piece) (n : ℕ) → piece_at b bs ≡ Some (p, n) → Fronts b bs p n
unfolding piece_at
piece_at-fronts b bs p n h = elim (cases_eq b 63) [
  | inl same ↦ (let k = some_pair_parts _ _ _ _ (rw (eq-eqb b 63 same) at h) in
      rw (← k.0, ← k.1) (alone One (ap (λ x. x ∷ []) same)))
  | inr not_one ↦ (let h1 = rw (ne_eqb b 63 not_one) at h in elim (cases_eq b 42) [
    | inl same ↦ (let k = some_pair_parts _ _ _ _ (rw (eq-eqb b 42 same) at h1) in
        rw (← k.0, ← k.1) (alone Many (ap (λ x. x ∷ []) same)))
    | inr not_many ↦ (let h2 = rw (ne_eqb b 42 not_many) at h1 in elim (cases_eq b 91) [
      | inl same ↦ (let k = rw (eq-eqb b 91 same) at h2 in
          rw same (piece_between-fronts 91 93 bs p n bracketed_piece (text_before 93 bs) refl (bracket-fronts bs) k))
      | inr not_bracket ↦ (let h3 = rw (ne_eqb b 91 not_bracket) at h2 in elim (cases_eq b 123) [
        | inl same ↦ (let k = rw (eq-eqb b 123 same) at h3 in
            rw same (piece_between-fronts 123 125 bs p n braced_piece (text_before 125 bs) refl (brace-fronts bs) k))
        | inr not_brace ↦ (let k = some_pair_parts _ _ _ _ (rw (ne_eqb b 123 not_brace) at h3) in
            rw (← k.0, ← k.1) (alone (Plain b) (refl, (not_one, not_many, not_bracket, not_brace))))
      ])
    ])
  ])
]
  where
    alone : (q : Piece) → IsPiece (b ∷ []) q → Fronts b bs q 0
    alone q spells = record { front = []; rest = bs; bytes_are = refl; spells = spells; rest_is = refl }

-- a piece that stands at the front of a text
pub record StandsAtFront (t : List ℕ) (p : Piece) (rest : List ℕ) : Type 0 where
  pub first : ℕ
  pub more : List ℕ
  pub own : ℕ
  pub text_is : t ≡ first ∷ more
  pub piece_is : piece_at first more ≡ Some (p, own)
  pub rest_is : drop own more ≡ rest

bracket-again : (inside rest : List ℕ) (p : Piece) → HasNo 93 inside → bracketed_piece inside ≡ Some p
    → StandsAtFront ((91 ∷ (inside ++ 93 ∷ [])) ++ rest) p rest
unfolding piece_at
bracket-again inside rest p has_no made = record {
  first = 91;
  more = (inside ++ 93 ∷ []) ++ rest;
  own = length inside + 1;
  text_is = refl;
  piece_is = rw (append_assoc inside (93 ∷ []) rest, text_before-again 93 inside rest has_no, made) refl;
  rest_is = rw (append_assoc inside (93 ∷ []) rest) (drop-closed inside rest 93);
}

has_no_brace : (bs : List ℕ) → AllByRecursion IsBraced bs → HasNo 125 bs
has_no_brace [] h = tt
has_no_brace (b ∷ bs) h = (h.0.3, has_no_brace bs h.1)

brace-again : (inside rest : List ℕ) (ts : List (List ℕ)) → AllByRecursion IsBraced inside → IsCut 44 inside ts
    → StandsAtFront ((123 ∷ (inside ++ 125 ∷ [])) ++ rest) (Among ts) rest
unfolding piece_at
brace-again inside rest ts all cuts = record {
  first = 123;
  more = (inside ++ 125 ∷ []) ++ rest;
  own = length inside + 1;
  text_is = refl;
  piece_is = rw (
    append_assoc inside (125 ∷ []) rest,
    text_before-again 125 inside rest (has_no_brace inside all),
    all_braced-again inside all,
    cut-from 44 inside ts cuts,
  ) refl;
  rest_is = rw (append_assoc inside (125 ∷ []) rest) (drop-closed inside rest 125);
}

one-again : (rest : List ℕ) → StandsAtFront (63 ∷ rest) One rest
unfolding piece_at
one-again rest = record { first = 63; more = rest; own = 0; text_is = refl; piece_is = refl; rest_is = refl }

many-again : (rest : List ℕ) → StandsAtFront (42 ∷ rest) Many rest
unfolding piece_at
many-again rest = record { first = 42; more = rest; own = 0; text_is = refl; piece_is = refl; rest_is = refl }

plain-again : (b : ℕ) (rest : List ℕ) → IsPlain b → StandsAtFront (b ∷ rest) (Plain b) rest
unfolding piece_at
plain-again b rest h = record {
  first = b;
  more = rest;
  own = 0;
  text_is = refl;
  piece_is = simp
      (ne_eqb b 63 h.0, ne_eqb b 42 h.1, ne_eqb b 91 h.2, ne_eqb b 123 h.3);
  rest_is = refl;
}

listed-again : (rest : List ℕ) (first : ℕ) (more : List ℕ) → first ≢ 33 → HasNo 93 (first ∷ more)
    → StandsAtFront ((91 ∷ ((first ∷ more) ++ 93 ∷ [])) ++ rest) (Listed (ranges (first ∷ more))) rest
listed-again rest first more ne has_no = bracket-again (first ∷ more) rest (Listed (ranges (first ∷ more))) has_no
    (rw (ne_eqb first 33 ne) refl)

unlisted-again : (rest : List ℕ) (first : ℕ) (more : List ℕ) → HasNo 93 (first ∷ more)
    → StandsAtFront ((91 ∷ ((33 ∷ first ∷ more) ++ 93 ∷ [])) ++ rest) (Unlisted (ranges (first ∷ more))) rest
unlisted-again rest first more has_no = bracket-again (33 ∷ first ∷ more) rest (Unlisted (ranges (first ∷ more)))
    (λ k. cc, has_no) refl

-- what is written at the front is read there
pub piece_at-again : (front rest : List ℕ) (p : Piece) → IsPiece front p → StandsAtFront (front ++ rest) p rest
piece_at-again front rest One h = subst (λ (t : List ℕ). StandsAtFront (t ++ rest) One rest) (sym h) (one-again rest)
piece_at-again front rest Many h = subst (λ (t : List ℕ). StandsAtFront (t ++ rest) Many rest) (sym h) (many-again rest)
piece_at-again front rest (Plain b) h = subst (λ (t : List ℕ). StandsAtFront (t ++ rest) (Plain b) rest) (sym h.0)
    (plain-again b rest h.1)
piece_at-again front rest (Listed rs) h =
    subst (λ (t : List ℕ). StandsAtFront (t ++ rest) (Listed rs) rest) (sym h.2)
    (subst (λ (x : List Range). StandsAtFront ((91 ∷ ((h.0 ∷ h.1) ++ 93 ∷ [])) ++ rest) (Listed x) rest) (sym h.5)
    (listed-again rest h.0 h.1 h.3 h.4))
piece_at-again front rest (Unlisted rs) h =
    subst (λ (t : List ℕ). StandsAtFront (t ++ rest) (Unlisted rs) rest) (sym h.2)
    (subst (λ (x : List Range). StandsAtFront ((91 ∷ ((33 ∷ h.0 ∷ h.1) ++ 93 ∷ [])) ++ rest) (Unlisted x) rest)
    (sym h.4) (unlisted-again rest h.0 h.1 h.3))
piece_at-again front rest (Among ts) h =
    subst (λ (t : List ℕ). StandsAtFront (t ++ rest) (Among ts) rest) (sym h.1) (brace-again h.0 rest ts h.2 h.3)

-- ---- pieces in a row

-- to skip is to drop
pub pieces_after-drop : (n : ℕ) (t : List ℕ) → pieces_after n t ≡ pieces_after 0 (drop n t)
unfolding pieces_after
pieces_after-drop zero t = refl
pieces_after-drop (suc n) [] = refl
pieces_after-drop (suc n) (b ∷ bs) = pieces_after-drop n bs

-- the pieces of a text are the one at its front, and those of what it leaves
pub pieces_after-cons : (b : ℕ) (bs : List ℕ) (p : Piece) (n : ℕ) → piece_at b bs ≡ Some (p, n)
    → pieces_after 0 (b ∷ bs) ≡ option_map (λ ps. p ∷ ps) (pieces_after 0 (drop n bs))
unfolding pieces_after
pieces_after-cons b bs p n h = rw h (ap (option_map (λ ps. p ∷ ps)) (pieces_after-drop n bs))

-- where none is read at the front, none are read
pub pieces_after-none : (b : ℕ) (bs : List ℕ) → piece_at b bs ≡ None → pieces_after 0 (b ∷ bs) ≡ None
unfolding pieces_after
pieces_after-none b bs h = rw h refl

pub pieces_after-end : pieces_after 0 [] ≡ Some []
unfolding pieces_after
pieces_after-end = refl

-- the same for a piece as the code reads it
pub pieces-read : (b : ℕ) (bs : List ℕ) (p : Piece) (rest : List ℕ) → Reads (piece_at b bs) bs p rest
    → pieces_after 0 (b ∷ bs) ≡ option_map (λ ps. p ∷ ps) (pieces_after 0 rest)
pieces-read b bs p rest h = pieces_after-cons b bs p h.own h.piece_is
    ∙ ap (λ (t : List ℕ). option_map (λ ps. p ∷ ps) (pieces_after 0 t)) (sym h.rest_is)

count-more : (m : ℕ) (p : Piece) (read : Option (List Piece))
    → option_map {U = ℕ} (λ ps. m + length ps) (option_map (λ ps. p ∷ ps) read) ≡ option_map (λ ps. (m + 1) + length ps)
    read
count-more m p None = refl
count-more m p (Some ps) = ap (λ (n : ℕ). Some n) (let e : m + suc (length ps) ≡ (m + 1) + length ps = omega arith in e)

-- one piece more is counted
pub counted : (m b : ℕ) (bs : List ℕ) (p : Piece) (rest : List ℕ) → Reads (piece_at b bs) bs p rest
    → option_map {U = ℕ} (λ ps. m + length ps) (pieces_after 0 (b ∷ bs)) ≡ option_map (λ ps. (m + 1) + length ps)
    (pieces_after 0 rest)
counted m b bs p rest h = ap (option_map (λ (ps : List Piece). m + length ps)) (pieces-read b bs p rest h)
    ∙ count-more m p (pieces_after 0 rest)

-- one piece more is read
pub fronted : (front : List Piece) (b : ℕ) (bs : List ℕ) (p : Piece) (rest : List ℕ) → Reads (piece_at b bs) bs p rest
    → with_front front (pieces_after 0 (b ∷ bs)) ≡ with_front (front ++ p ∷ []) (pieces_after 0 rest)
fronted front b bs p rest h = ap (with_front front) (pieces-read b bs p rest h)
    ∙ front-more front p (pieces_after 0 rest)

pub read-shorter : (b : ℕ) (bs : List ℕ) (p : Piece) (rest : List ℕ) → Reads (piece_at b bs) bs p rest
    → length rest ≤ length bs
read-shorter b bs p rest h = rw h.rest_is (omega (arith, length-drop h.own bs))

-- ---- the same at a slice that is not empty: its first byte, and the range behind it

behind-first : (b : ℕ) (bs : List ℕ) → take (length (b ∷ bs) - 1) (drop 1 (b ∷ bs)) ≡ bs
behind-first b bs = let e : length (b ∷ bs) - 1 ≡ length bs = omega arith in rw e (take-length bs)

pub none-at : (t : List ℕ) → 1 ≤ length t → piece_at (get_or t 0 0) (take (length t - 1) (drop 1 t)) ≡ None
    → pieces_after 0 t ≡ None
none-at [] l h = absurd (omega arith)
none-at (b ∷ bs) l h = pieces_after-none b bs (subst (λ (x : List ℕ). piece_at b x ≡ None) (behind-first b bs) h)

-- what a token read at the front of a slice tells
pub record ReadAt (t : List ℕ) (p : Piece) (rest : List ℕ) : Type 0 where
  pub read : Reads (piece_at (get_or t 0 0) (take (length t - 1) (drop 1 t))) (take (length t - 1) (drop 1 t)) p rest

at-cons : (b : ℕ) (bs : List ℕ) (p : Piece) (rest : List ℕ) → ReadAt (b ∷ bs) p rest → Reads (piece_at b bs) bs p rest
at-cons b bs p rest h = subst (λ (x : List ℕ). Reads (piece_at b x) x p rest) (behind-first b bs) h.read

pub counted-at : (m : ℕ) (t : List ℕ) (p : Piece) (rest : List ℕ) → 1 ≤ length t → ReadAt t p rest
    → option_map {U = ℕ} (λ ps. (m + 1) + length ps) (pieces_after 0 rest) ≡ option_map (λ ps. m + length ps)
    (pieces_after 0 t)
counted-at m [] p rest l h = absurd (omega arith)
counted-at m (b ∷ bs) p rest l h = sym (counted m b bs p rest (at-cons b bs p rest h))

pub fronted-at : (front : List Piece) (t : List ℕ) (p : Piece) (rest : List ℕ) → 1 ≤ length t → ReadAt t p rest
    → with_front (front ++ p ∷ []) (pieces_after 0 rest) ≡ with_front front (pieces_after 0 t)
fronted-at front [] p rest l h = absurd (omega arith)
fronted-at front (b ∷ bs) p rest l h = sym (fronted front b bs p rest (at-cons b bs p rest h))

pub shorter-at : (t : List ℕ) (p : Piece) (rest : List ℕ) → 1 ≤ length t → ReadAt t p rest → length rest + 1 ≤ length t
shorter-at [] p rest l h = absurd (omega arith)
shorter-at (b ∷ bs) p rest l h = omega (arith, read-shorter b bs p rest (at-cons b bs p rest h))

-- at the end of a text no piece is left
pub end-at : (t : List ℕ) → length t < 1 → pieces_after 0 t ≡ Some []
end-at [] l = pieces_after-end
end-at (b ∷ bs) l = absurd (omega arith)

pub counted-end : (m : ℕ) (t : List ℕ) → length t < 1
    → Some m ≡ option_map {U = ℕ} (λ ps. m + length ps) (pieces_after 0 t)
counted-end m t l = rw (end-at t l) (ap (λ (n : ℕ). Some n) (let e : m ≡ m + 0 = omega arith in e))

pub fronted-end : (front : List Piece) (t : List ℕ) → length t < 1 → with_front front (pieces_after 0 t) ≡ Some front
fronted-end front t l = rw (end-at t l) (ap (λ (x : List Piece). Some x) (append-nil front))
